use Rattle.std.proofs.Common.{◌++◌, sym, ◌∙◌, ap, List, ℕ, Bool, length, drop, if◌then◌else◌}
use Rattle.wasm_sections.proofs.AdditionLemmas.{in_place}
use Rattle.wasm_sections.proofs.appending.append_in_place.Goals as goal

pub returns : goal.returns
returns c =
    let old = c.args.contents.now.items in
    let item = c.args.item.now in
    in_place _ _ c.args.number.now old item c.extend_from_slice.new.self.items
    (c.overwrite.ensures ∙ ap (λ (l : List ℕ). c.args.number.now ++ drop (length c.args.number.now) l) c.deref_mut.ensures.value)
    (c.extend_from_slice.ensures.items
    ∙ ap (λ (b : Bool). if b then old ++ item else old) (c.extend_from_slice.ensures.succeeds c.requires.room))
    (sym (ap (λ (l : List ℕ). length l) c.deref_mut.ensures.value) ∙ c.deref_mut.ensures.len) c.requires.fits
