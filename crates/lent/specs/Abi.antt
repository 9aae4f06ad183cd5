-- The number of the interface for C and Rust. It is raised with each change of a struct or of a signature; one that is
-- only added does not raise it.
use Rattle.std.specs.Prelude.{ℕ}

abbrev pub abi_number : ℕ
abi_number = 5
