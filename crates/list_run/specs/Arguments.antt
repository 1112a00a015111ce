-- What the program's arguments ask for.
use Rattle.std.specs.Prelude.{ℕ, ◌<◌, ◌≡◌, List, [], ◌∷◌}
use Rattle.list_run.specs.declared.arguments.Asked.{Asked}
use Rattle.list_run.specs.declared.arguments.Asked.TheVariants.{Listing, Help, Version, Other}

-- `--help` and `--version`.
abbrev pub help_word : List ℕ
help_word = 45 ∷ 45 ∷ 104 ∷ 101 ∷ 108 ∷ 112 ∷ []

abbrev pub version_word : List ℕ
version_word = 45 ∷ 45 ∷ 118 ∷ 101 ∷ 114 ∷ 115 ∷ 105 ∷ 111 ∷ 110 ∷ []

-- So many words, the program's own name among them, of which the second is this, ask for that.
pub data Asks : (words : ℕ) → (word : List ℕ) → Asked → Type 0 where
  no_arguments : {words : ℕ} {word : List ℕ} → words < 2 → Asks words word Listing
  help : Asks 2 help_word Help
  version : Asks 2 version_word Version
  unknown : {word : List ℕ} → (word ≡ help_word → ⊥) → (word ≡ version_word → ⊥) → Asks 2 word Other
  more : {words : ℕ} {word : List ℕ} → 2 < words → Asks words word Other
