-- The version of the library, as one number.
use Rattle.std.specs.Prelude.{ℕ, ◌+◌, ◌*◌}

abbrev pub version_number : (major minor patch : ℕ) → ℕ
version_number major minor patch = major * 10_000 + minor * 100 + patch

-- The header's version. Its minor number is raised with each change of a signature (CHANGELOG.md).
abbrev pub version : ℕ
version = version_number 0 5 0
