use Rattle.std.proofs.Common.{rules, ◌≡◌, [], List, ℕ, inr, refl, sym, subst}
use Rattle.std.proofs.lemmas.Result.{err_from_is_err_and}
use Rattle.dwarf_bytes.specs.Numbers.{size_in_bytes, fixed_number}
use Rattle.dwarf.proofs.IndexLemmas.{ReadSoFar, read_none, read_all, read_refused, read_more}
use Rattle.dwarf.proofs.name_index.NameIndex.read_names.Goals as goal

pub names-init : goal.names-init
names-init c =
    let one = fixed_number (size_in_bytes c.args.self.now.size) in
    let all = c.args.self.now.names.rest.now in
    subst (λ (l : List ℕ). ReadSoFar one all all l) (sym c.new-offsets.ensures.items) (read_none one all)

pub returns-in_err-offset-clause-refused : goal.returns-in_err-offset-clause-refused
returns-in_err-offset-clause-refused c =
    let some : c.names.left.rest.now ≡ [] → ⊥ = search rules in
    let p = err_from_is_err_and c.from_residual.result c.from_residual.ensures.1 in
    rw (p.1, p.2) (inr (_, refl, read_refused _ _ _ _ c.names.invariant some _ c.in_err-offset.ensures.gives))

pub names-preserved : goal.names-preserved
names-preserved c =
    let one = fixed_number (size_in_bytes c.args.self.now.size) in
    let all = c.args.self.now.names.rest.now in
    let some : c.names.left.rest.now ≡ [] → ⊥ = search rules in
    subst (λ (l : List ℕ). ReadSoFar one all c.sized.new.self.rest.now l) (sym c.in_ok-push.ensures.items)
    (read_more one all c.names.left.rest.now c.names.offsets.items c.names.invariant some c.in_ok-offset.offset c.sized.new.self.rest.now c.in_ok-offset.ensures.gives c.in_ok-offset.ensures.shorter)

pub returns-clause-read : goal.returns-clause-read
returns-clause-read c =
    let none : c.names.left.rest.now ≡ [] = search rules in
    read_all _ _ _ _ c.names.invariant none
