-- Macros: the offsets of line tables keep their sizes.
use Rattle.std.proofs.Common.{ℕ, ◌-◌, List, length, Result, Ok, inl, inr}
use Rattle.wasm_numbers.proofs.Agreement.{chosen}
use Rattle.wasm_numbers.proofs.ResultLemmas.{bind_ok}
use Rattle.wasm_numbers.specs.Results.{◌>>=◌}
use Rattle.dwarf_bytes.specs.declared.fault.DebugFault.{DebugFault}
use Rattle.dwarf_bytes.specs.Changes.{SectionChange}
use Rattle.dwarf_bytes.specs.Numbers.{size_in_bytes, fixed_number}
use Rattle.dwarf_line.specs.declared.moved.Moved.{Moved}
use Rattle.dwarf.specs.Macros.{MacroFlags, macro_header, macro_entries, table_moved, line_table_followed, macros_followed}
use Rattle.dwarf.specs.NewFields.{MacrosHaveNewFields}
use Rattle.dwarf.specs.Replacing.{number_replaced}
use Rattle.dwarf.proofs.FieldLemmas.{KeepsFields, pair_keeps, number_keeps, section_keeps}

line_table_keeps : (ts : List Moved) (f : MacroFlags) (end : ℕ) → KeepsFields (line_table_followed ts f end)
line_table_keeps ts f end = record {
  at = λ bytes cs r e fields.
      let at = end - length bytes in
      let k = size_in_bytes f.size in
      let followed : Result (List SectionChange × List ℕ) DebugFault =
      fixed_number k bytes >>= λ offset. table_moved ts offset.0 >>= λ new. number_replaced at f.size offset.0 new cs >>= λ now. Ok (now, offset.1) in
      elim (chosen f.has_table followed (Ok (cs, bytes)) (Ok r) e) [
        | inl p ↦
            let offset = bind_ok (fixed_number k bytes) (λ offset. table_moved ts offset.0 >>= λ new. number_replaced at f.size offset.0 new cs >>= λ now. Ok (now, offset.1)) r p.1 in
            let o = offset.0.0 in
            let rest = offset.0.1 in
            let n = bind_ok (table_moved ts o) (λ new. number_replaced at f.size o new cs >>= λ now. Ok (now, rest)) r offset.2 in
            let now = bind_ok (number_replaced at f.size o n.0 cs) (λ now. Ok (now, rest)) r n.2 in
            pair_keeps now.0 rest r now.2 (number_keeps at f.size o n.0 cs now.0 now.1 fields)
        | inr p ↦ pair_keeps cs bytes r p.1 fields
      ];
}

macros_keep : (ts : List Moved) (end : ℕ) → KeepsFields (macros_followed ts end)
macros_keep ts end = record {
  at = λ bytes cs r e fields.
      let flags = bind_ok (macro_header bytes) (λ f. line_table_followed ts f.0 end f.1 cs >>= λ now. macro_entries f.0.size now.1 >>= λ entries. Ok (now.0, entries.1)) r e in
      let f = flags.0.0 in
      let now = bind_ok (line_table_followed ts f end flags.0.1 cs) (λ now. macro_entries f.size now.1 >>= λ entries. Ok (now.0, entries.1)) r flags.2 in
      let entries = bind_ok (macro_entries f.size now.0.1) (λ entries. Ok (now.0.0, entries.1)) r now.2 in
      let kept = line_table_keeps ts f end in
      pair_keeps now.0.0 entries.0.1 r entries.2 (kept.at flags.0.1 cs now.0 now.1 fields);
}

pub macros_have_new_fields : MacrosHaveNewFields
macros_have_new_fields ts section new e = section_keeps (macros_followed ts (length section)) (macros_keep ts (length section)) section new e
