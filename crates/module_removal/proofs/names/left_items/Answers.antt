use Rattle.std.proofs.Common.{◌≡◌, ℕ, ◌≤◌, List, [], Ok, sym, subst, ◌∙◌}
use Rattle.wasm_sections.specs.Parts.{Part, ◌>=>◌, just, number, repeated}
use Rattle.wasm_sections.proofs.RepeatedLemmas.{all_done}
use Rattle.wasm_sections.proofs.TypeReadingLemmas.{first_gives}
use Rattle.module_removal.specs.Entries.{counted_bytes, entries_made}
use Rattle.module_removal.specs.LeftNames.{next_map_entry, left_map}
use Rattle.module_removal.proofs.VectorLemmas.{PartsLeft, no_part_read, one_more_part, bytes_then}
use Rattle.module_removal.proofs.names.left_items.Goals as goal

-- all entries are read, and then their vector is made
entries_read :
    (step : ℕ × List ℕ → Part (ℕ × List ℕ)) (count i : ℕ) (now : ℕ × List ℕ) (end : ℕ) (text rest : List ℕ) → PartsLeft step count i (0, []) now end text rest →
    count ≤ i →
    (number >=> λ n. repeated step n (0, []) >=> λ so. just (counted_bytes so)) end text ≡ Ok (counted_bytes now, rest)
entries_read step count i now end text rest so done =
    first_gives (number end text) (λ y. (repeated step y.0 (0, []) >=> λ so. just (counted_bytes so)) end y.1) (count, so.begin) so.read
    ∙ first_gives (repeated step count (0, []) end so.begin) (λ y. Ok (counted_bytes y.0, y.1)) (now, rest)
    (all_done step count i (0, []) now end so.begin rest so.left done)

pub entries-init : goal.entries-init
entries-init c =
    let step = next_map_entry c.args.left.now c.args.space c.args.are_maps in
    record {
      same_end = c.number.ensures.same_end;
      left =
          subst (λ (so : ℕ × List ℕ). PartsLeft step c.in-Ok.value 0 (0, []) so c.args.contents.end c.args.contents.rest.now c.number.new.self.rest.now)
          (sym c.new-entries.ensures)
          (no_part_read step c.in-Ok.value (0, []) c.args.contents.end c.args.contents.rest.now c.number.new.self.rest.now c.in-Ok.ensures.is);
    }

pub entries-preserved : goal.entries-preserved
entries-preserved c =
    let at = c.entries in
    record {
      same_end = c.add_next.ensures.same_end ∙ at.invariant.same_end;
      left =
          one_more_part (next_map_entry c.args.left.now c.args.space c.args.are_maps) c.in-Ok.value at.counter (0, []) (entries_made at.entries) (entries_made c.add_next.new.entries)
          c.args.contents.end at.input.end c.args.contents.rest.now at.input.rest.now c.add_next.new.input.rest.now at.invariant.left c.entries-test.true at.invariant.same_end
          c.in-Ok-add_next.ensures.is;
    }

pub returns : goal.returns
returns c =
    let at = c.entries in
    let contents = c.args.contents in
    let step = next_map_entry c.args.left.now c.args.space c.args.are_maps in
    bytes_then c.whole.result (counted_bytes (entries_made at.entries))
    (λ (l : List ℕ). (following : List ℕ) × (left_map c.args.left.now c.args.space c.args.are_maps contents.end contents.rest.now ≡ Ok (l, following)))
    c.whole.ensures (at.input.rest.now, entries_read step c.in-Ok.value at.counter (entries_made at.entries) contents.end contents.rest.now at.input.rest.now at.invariant.left c.entries-test.false)
