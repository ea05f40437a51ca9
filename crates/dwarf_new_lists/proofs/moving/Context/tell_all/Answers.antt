use Rattle.std.proofs.Common.{◌≡◌, [], ◌∷◌, Err, inl, inr, sym, subst}
use Rattle.std.proofs.lemmas.Result.{err_from_is_err_and}
use Rattle.wasm_numbers.specs.Results.{each}
use Rattle.dwarf_bytes.specs.Addresses.{addresses_of_table, indexed_address}
use Rattle.dwarf_bytes.specs.Uses.{told}
use Rattle.dwarf_new_lists.specs.declared.kind.Kind.{Kind}
use Rattle.dwarf_new_lists.specs.Contexts.{bodies}
use Rattle.dwarf_new_lists.specs.Tellings.{Tells, indices}
use Rattle.dwarf_new_lists.proofs.Passing.{each_second}
use Rattle.dwarf_new_lists.proofs.Tellings.{tells_both}
use Rattle.dwarf_new_lists.proofs.moving.Context.tell_all.Goals as goal

pub returns-in_ok-tell-in-IndexPair-2-clause-told : goal.returns-in_ok-tell-in-IndexPair-2-clause-told
returns-in_ok-tell-in-IndexPair-2-clause-told c =
    let bs = bodies c.args.self.now in
    let t = c.args.self.now.addresses.now in
    let one = c.args.entry.now.one.value in
    let two = c.args.entry.now.two.value in
    let both =
    tells_both bs t (told c.args.uses.now) (told c.tell-in-IndexPair.new.uses) (told c.tell-in-IndexPair-2.new.uses) (one ∷ []) (two ∷ []) c.in_ok-tell-in-IndexPair.ensures.told
    c.in_ok-tell-in-IndexPair-2.ensures.told in
    subst (λ (k : Kind). Tells bs t (told c.args.uses.now) (told c.tell-in-IndexPair-2.new.uses) (indices k one two)) (sym c.in-IndexPair.is) both

pub returns-in_err-tell-in-IndexPair-2-clause-refused : goal.returns-in_err-tell-in-IndexPair-2-clause-refused
returns-in_err-tell-in-IndexPair-2-clause-refused c =
    let f = indexed_address (addresses_of_table c.args.self.now.addresses.now) in
    let one = c.args.entry.now.one.value in
    let two = c.args.entry.now.two.value in
    let first = c.in_ok-tell-in-IndexPair.ensures.named in
    let p = err_from_is_err_and c.from_residual-in_err-tell-in-IndexPair-2.result c.from_residual-in_err-tell-in-IndexPair-2.ensures.1 in
    rw (p.1, p.2) (elim c.in_err-tell-in-IndexPair-2.ensures.refused [
      | inl memory ↦ inl memory
      | inr x ↦ inr (
        x.0,
        x.1,
        subst (λ (k : Kind). each f (indices k one two) ≡ Err x.0) (sym c.in-IndexPair.is) (each_second f one two first.0 [] x.0 first.1 x.2),
      )
    ])
