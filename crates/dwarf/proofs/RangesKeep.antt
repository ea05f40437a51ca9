-- Address ranges: their fields keep their sizes.
use Rattle.std.proofs.Common.{◌≡◌, ℕ, ◌-◌, ◌*◌, ◌^◌, ◌&&◌, eqb, ltb, List, ◌++◌, length, Option, Some, None, Ok, Err, inl, inr, subst, if◌then◌else◌, ◌==◌, arith, length-append}
use Rattle.wasm_numbers.proofs.Agreement.{chosen}
use Rattle.wasm_numbers.proofs.ResultLemmas.{bind_ok, ok_same}
use Rattle.wasm_numbers.specs.Results.{◌>>=◌}
use Rattle.dwarf_bytes.specs.declared.fault.DebugFault.{DebugFault}
use Rattle.dwarf_bytes.specs.declared.fault.DebugFault.TheVariants.{UnknownVersion, DoesNotFit}
use Rattle.dwarf_bytes.specs.declared.size.Format.{Format}
use Rattle.dwarf_bytes.specs.declared.size.Size.{Size}
use Rattle.dwarf_bytes.specs.Changes.{SectionChange}
use Rattle.dwarf_bytes.specs.Numbers.{size_in_bytes, offset_size, fixed_number, initial_length, part_and_rest}
use Rattle.dwarf_bytes.specs.Patches.{part_of}
use Rattle.dwarf_bytes.specs.Writing.{fixed_bytes}
use Rattle.dwarf_line.proofs.Spelled.{length-fixed_bytes}
use Rattle.dwarf.specs.AddressRanges.{RangesFollowing, has_code, range_moved, range_replaced, unit_range_replaced, range_followed, size_of_ranges, ranges_of_part_followed, ranges_table_followed}
use Rattle.dwarf.specs.NewFields.{RangesHaveNewFields}
use Rattle.dwarf.specs.Replacing.{Replacing, part_replaced, each_replaced, unit_followed}
use Rattle.dwarf.proofs.FieldLemmas.{AreFields, KeepsFields, part_keeps, pair_keeps, unit_keeps, all_keep, section_keeps}

two_numbers : (k begin size : ℕ) → length (fixed_bytes k begin ++ fixed_bytes k size) ≡ 2 * k
two_numbers k begin size = omega (arith, length-append (fixed_bytes k begin) (fixed_bytes k size), length-fixed_bytes k begin, length-fixed_bytes k size)

written_keeps : (at : ℕ) (size : Size) (range : Option (ℕ × ℕ)) (cs new : List SectionChange) → range_replaced at size range cs ≡ Ok new → AreFields cs → AreFields new
written_keeps at size None cs new e fields = subst AreFields (ok_same {E = DebugFault} cs new e) fields
written_keeps at size (Some (begin, long)) cs new e fields =
    let k = size_in_bytes size in
    let part = part_of at (2 * k) (fixed_bytes k begin ++ fixed_bytes k long) in
    elim (chosen (ltb begin (256 ^ k) && ltb long (256 ^ k)) (part_replaced part cs) (Err DoesNotFit) (Ok new) e) [
      | inl p ↦ part_keeps part cs new (two_numbers k begin long) p.1 fields
      | inr p ↦ absurd (let h = p.1 in cc)
    ]

unit_range_keeps : (f : RangesFollowing) (unit at : ℕ) (size : Size) (begin long : ℕ) (cs new : List SectionChange) → unit_range_replaced f unit at size begin long cs ≡ Ok new
    → AreFields cs → AreFields new
unit_range_keeps f unit at size begin long cs new e fields =
    let moved : Replacing = range_moved f.bodies begin long >>= λ range. range_replaced at size range cs in
    elim (chosen (f.is_code unit begin long) moved (Ok cs) (Ok new) e) [
      | inl p ↦
          let range = bind_ok (range_moved f.bodies begin long) (λ range. range_replaced at size range cs) new p.1 in
          written_keeps at size range.0 cs new range.2 fields
      | inr p ↦ subst AreFields (ok_same {E = DebugFault} cs new p.1) fields
    ]

range_keeps : (f : RangesFollowing) (unit : ℕ) (size : Size) (end : ℕ) → KeepsFields (range_followed f unit size end)
range_keeps f unit size end = record {
  at = λ bytes cs r e fields.
      let at = end - length bytes in
      let k = size_in_bytes size in
      let begin = bind_ok (fixed_number k bytes) (λ begin. fixed_number k begin.1 >>= λ long. unit_range_replaced f unit at size begin.0 long.0 cs >>= λ now. Ok (now, long.1)) r e in
      let b = begin.0.0 in
      let long = bind_ok (fixed_number k begin.0.1) (λ long. unit_range_replaced f unit at size b long.0 cs >>= λ now. Ok (now, long.1)) r begin.2 in
      let l = long.0.0 in
      let rest = long.0.1 in
      let now = bind_ok (unit_range_replaced f unit at size b l cs) (λ now. Ok (now, rest)) r long.2 in
      pair_keeps now.0 rest r now.2 (unit_range_keeps f unit at size b l cs now.0 now.1 fields);
}

part_keep : (f : RangesFollowing) (format : Format) (end : ℕ) (bytes : List ℕ) (cs new : List SectionChange) → ranges_of_part_followed f format end bytes cs ≡ Ok new → AreFields cs → AreFields new
part_keep f format end bytes cs new e fields =
    let of = offset_size format in
    let sized = λ (unit : (ℕ × List SectionChange) × List ℕ). (
    let r : Replacing = size_of_ranges format unit.1 >>= λ size. each_replaced (range_followed f unit.0.0 size.0 end) size.1 unit.0.1 in
    r
    ) in
    let followed = λ (rest : List ℕ). (let r : Replacing = unit_followed f.info of end rest cs >>= sized in r) in
    let version = bind_ok (fixed_number 2 bytes) (λ version. if version.0 == 2 then followed version.1 else Err UnknownVersion) new e in
    elim (chosen (eqb version.0.0 2) (followed version.0.1) (Err UnknownVersion) (Ok new) version.2) [
      | inl p ↦
          let unit = bind_ok (unit_followed f.info of end version.0.1 cs) sized new p.1 in
          let u = unit.0.0.0 in
          let size = bind_ok (size_of_ranges format unit.0.1) (λ size. each_replaced (range_followed f u size.0 end) size.1 unit.0.0.1) new unit.2 in
          all_keep (range_followed f u size.0.0 end) (range_keeps f u size.0.0 end) size.0.1 unit.0.0.1 new size.2 (unit_keeps f.info of end version.0.1 cs unit.0 unit.1 fields)
      | inr p ↦ absurd (let h = p.1 in cc)
    ]

table_keeps : (f : RangesFollowing) (end : ℕ) → KeepsFields (ranges_table_followed f end)
table_keeps f end = record {
  at = λ bytes cs r e fields.
      let size = bind_ok (initial_length bytes)
      (λ size. part_and_rest size.0.1 size.1 >>= λ part. ranges_of_part_followed f size.0.0 (end - length part.1) part.0 cs >>= λ now. Ok (now, part.1)) r e in
      let format = size.0.0.0 in
      let part = bind_ok (part_and_rest size.0.0.1 size.0.1) (λ part. ranges_of_part_followed f format (end - length part.1) part.0 cs >>= λ now. Ok (now, part.1)) r size.2 in
      let rest = part.0.1 in
      let now = bind_ok (ranges_of_part_followed f format (end - length rest) part.0.0 cs) (λ now. Ok (now, rest)) r part.2 in
      pair_keeps now.0 rest r now.2 (part_keep f format (end - length rest) part.0.0 cs now.0 now.1 fields);
}

pub ranges_have_new_fields : RangesHaveNewFields
ranges_have_new_fields bodies code info section new e =
    let f : RangesFollowing = record { bodies = bodies; is_code = has_code code; info = info } in
    section_keeps (ranges_table_followed f (length section)) (table_keeps f (length section)) section new e
