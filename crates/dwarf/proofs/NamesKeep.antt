-- Tables of names: their fields keep their sizes.
use Rattle.std.proofs.Common.{◌≡◌, ℕ, ◌-◌, Bool, eqb, List, [], length, Result, Ok, Err, inl, inr, if◌then◌else◌, ◌==◌}
use Rattle.wasm_numbers.proofs.Agreement.{chosen}
use Rattle.wasm_numbers.proofs.ResultLemmas.{bind_ok}
use Rattle.wasm_numbers.specs.Results.{◌>>=◌}
use Rattle.dwarf_bytes.specs.declared.fault.DebugFault.{DebugFault}
use Rattle.dwarf_bytes.specs.declared.fault.DebugFault.TheVariants.{UnknownVersion}
use Rattle.dwarf_bytes.specs.declared.size.Size.{Size}
use Rattle.dwarf_bytes.specs.Changes.{SectionChange}
use Rattle.dwarf_bytes.specs.Numbers.{size_in_bytes, offset_size, fixed_number, initial_length, part_and_rest}
use Rattle.dwarf.specs.Names.{NamesOfUnit, name_of_entry, name_followed, names_of_unit_followed, names_of_part_followed, names_table_followed}
use Rattle.dwarf.specs.NewFields.{NamesHaveNewFields}
use Rattle.dwarf.specs.Replacing.{Replacing, distance_replaced, each_replaced, unit_followed}
use Rattle.dwarf.proofs.FieldLemmas.{AreFields, KeepsFields, pair_keeps, distance_keeps, unit_keeps, all_keep, section_keeps}

name_keeps : (n : NamesOfUnit) → KeepsFields (name_followed n)
name_keeps n = record {
  at = λ bytes cs r e fields.
      let at = n.end - length bytes in
      let distance = bind_ok (fixed_number (size_in_bytes n.size) bytes)
      (λ distance. if distance.0 == 0 then Ok (cs, []) else (distance_replaced n.info n.unit at n.size distance.0 cs >>= λ now. name_of_entry n.is_gnu distance.1 >>= λ name. Ok (now, name.1))) r e in
      let d = distance.0.0 in
      let rest = distance.0.1 in
      let others : Result (List SectionChange × List ℕ) DebugFault = distance_replaced n.info n.unit at n.size d cs >>= λ now. name_of_entry n.is_gnu rest >>= λ name. Ok (now, name.1) in
      elim (chosen (eqb d 0) (Ok (cs, [])) others (Ok r) distance.2) [
        | inl p ↦ pair_keeps cs [] r p.1 fields
        | inr p ↦
            let now = bind_ok (distance_replaced n.info n.unit at n.size d cs) (λ now. name_of_entry n.is_gnu rest >>= λ name. Ok (now, name.1)) r p.1 in
            let name = bind_ok (name_of_entry n.is_gnu rest) (λ name. Ok (now.0, name.1)) r now.2 in
            pair_keeps now.0 name.0.1 r name.2 (distance_keeps n.info n.unit at n.size d cs now.0 now.1 fields)
      ];
}

names_keep : (n : NamesOfUnit) (bytes : List ℕ) (cs new : List SectionChange) → names_of_unit_followed n bytes cs ≡ Ok new → AreFields cs → AreFields new
names_keep n bytes cs new e fields =
    let at = n.end - length bytes in
    let distance = bind_ok (fixed_number (size_in_bytes n.size) bytes) (λ distance. distance_replaced n.info n.unit at n.size distance.0 cs >>= λ now. each_replaced (name_followed n) distance.1 now) new e in
    let d = distance.0.0 in
    let rest = distance.0.1 in
    let now = bind_ok (distance_replaced n.info n.unit at n.size d cs) (λ now. each_replaced (name_followed n) rest now) new distance.2 in
    all_keep (name_followed n) (name_keeps n) rest now.0 new now.2 (distance_keeps n.info n.unit at n.size d cs now.0 now.1 fields)

part_keep : (info : List SectionChange) (is_gnu : Bool) (size : Size) (end : ℕ) (bytes : List ℕ) (cs new : List SectionChange) → names_of_part_followed info is_gnu size end bytes cs ≡ Ok new
    → AreFields cs → AreFields new
part_keep info is_gnu size end bytes cs new e fields =
    let names = λ (unit : ℕ). (let n : NamesOfUnit = record { info = info; unit = unit; size = size; is_gnu = is_gnu; end = end } in n) in
    let followed = λ (rest : List ℕ). (let r : Replacing = unit_followed info size end rest cs >>= λ unit. names_of_unit_followed (names unit.0.0) unit.1 unit.0.1 in r) in
    let version = bind_ok (fixed_number 2 bytes) (λ version. if version.0 == 2 then followed version.1 else Err UnknownVersion) new e in
    elim (chosen (eqb version.0.0 2) (followed version.0.1) (Err UnknownVersion) (Ok new) version.2) [
      | inl p ↦
          let unit = bind_ok (unit_followed info size end version.0.1 cs) (λ unit. names_of_unit_followed (names unit.0.0) unit.1 unit.0.1) new p.1 in
          names_keep (names unit.0.0.0) unit.0.1 unit.0.0.1 new unit.2 (unit_keeps info size end version.0.1 cs unit.0 unit.1 fields)
      | inr p ↦ absurd (let h = p.1 in cc)
    ]

table_keeps : (info : List SectionChange) (is_gnu : Bool) (end : ℕ) → KeepsFields (names_table_followed info is_gnu end)
table_keeps info is_gnu end = record {
  at = λ bytes cs r e fields.
      let size = bind_ok (initial_length bytes)
      (λ size. part_and_rest size.0.1 size.1 >>= λ part. names_of_part_followed info is_gnu (offset_size size.0.0) (end - length part.1) part.0 cs >>= λ now. Ok (now, part.1)) r e in
      let of = offset_size size.0.0.0 in
      let part = bind_ok (part_and_rest size.0.0.1 size.0.1) (λ part. names_of_part_followed info is_gnu of (end - length part.1) part.0 cs >>= λ now. Ok (now, part.1)) r size.2 in
      let rest = part.0.1 in
      let now = bind_ok (names_of_part_followed info is_gnu of (end - length rest) part.0.0 cs) (λ now. Ok (now, rest)) r part.2 in
      pair_keeps now.0 rest r now.2 (part_keep info is_gnu of (end - length rest) part.0.0 cs now.0 now.1 fields);
}

pub names_have_new_fields : NamesHaveNewFields
names_have_new_fields info is_gnu section new e = section_keeps (names_table_followed info is_gnu (length section)) (table_keeps info is_gnu (length section)) section new e
