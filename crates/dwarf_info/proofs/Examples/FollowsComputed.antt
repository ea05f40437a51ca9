-- What becomes of offsets, and of the parts of a section, where a part of it gets longer.
use Rattle.std.specs.Prelude.{◌≡◌, List, [], ◌∷◌, Some, Ok, Err, refl}
use Rattle.dwarf_bytes.specs.declared.fault.DebugFault.TheVariants.{DoesNotFit}
use Rattle.dwarf_bytes.specs.declared.size.Format.TheVariants.{Dwarf32}
use Rattle.dwarf_bytes.specs.declared.size.Size.TheVariants.{One, Four}
use Rattle.dwarf_bytes.specs.Changes.{SectionChange}
use Rattle.dwarf_bytes.specs.Merging.{merged_parts}
use Rattle.dwarf_bytes.specs.Patches.{part_of}
use Rattle.dwarf_expressions.specs.declared.encoding.Encoding.{Encoding}
use Rattle.dwarf_info.specs.declared.form.Layout.TheVariants.{Sized}
use Rattle.dwarf_info.specs.Forms.{SpelledValue}
use Rattle.dwarf_info.specs.Following.{offset_followed, distance_followed, length_steps, number_steps}

-- two bytes at 20 become five
abbrev longer : List SectionChange
longer = part_of 20 2 (1 ∷ 2 ∷ 3 ∷ 4 ∷ 5 ∷ []) ∷ []

in_front : offset_followed longer 20 ≡ 20
in_front = refl

after_it : offset_followed longer 22 ≡ 25
after_it = refl

-- an entry at 30 of the unit that begins at 11, and of one that begins at 25
across : distance_followed longer 11 19 ≡ Ok 22
across = refl

past_it : distance_followed longer 25 5 ≡ Ok 5
past_it = refl

-- the length of a unit from 0 to 40, in four bytes
length_grows : length_steps longer Dwarf32 0 40 ≡ Ok (part_of 0 4 (39 ∷ 0 ∷ 0 ∷ 0 ∷ [])) ∷ []
length_grows = refl

length_stays : length_steps longer Dwarf32 22 40 ≡ []
length_stays = refl

-- values of one byte
abbrev encoded : Encoding
encoded = record { version = 4; format = Dwarf32; address_size = Four }

abbrev value : SpelledValue
value = record { at = 7; size = 1; number = 19; block = [] }

written : number_steps encoded (Sized One) value (Some 22) ≡ Ok (part_of 7 1 (22 ∷ [])) ∷ []
written = refl

unchanged : number_steps encoded (Sized One) value (Some 19) ≡ []
unchanged = refl

too_great : number_steps encoded (Sized One) value (Some 256) ≡ Err DoesNotFit ∷ []
too_great = refl

-- with those that were replaced first
between : merged_parts longer (part_of 7 1 (22 ∷ []) ∷ part_of 30 1 (4 ∷ []) ∷ [])
    ≡ part_of 7 1 (22 ∷ []) ∷ part_of 20 2 (1 ∷ 2 ∷ 3 ∷ 4 ∷ 5 ∷ []) ∷ part_of 30 1 (4 ∷ []) ∷ []
between = refl
