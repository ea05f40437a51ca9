-- Locations of instructions in their source, as numbers.
use Rattle.std.specs.Prelude.{ℕ}

-- the location that says nothing
abbrev pub default_location : ℕ
default_location = 0xffff_ffff
