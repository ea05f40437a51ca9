use Rattle.std.proofs.Common.{rules, ◌≡◌, ◌-◌, ◌<◌, [], ℕ, length, Ok, inl, inr, refl, ap, ◌∙◌, arith}
use Rattle.std.proofs.lemmas.Result.{err_from_is_err_and}
use Rattle.dwarf_bytes.specs.declared.fault.DebugFault.TheVariants.{Truncated}
use Rattle.dwarf_bytes.specs.Patches.{changes}
use Rattle.dwarf.specs.NameIndexViews.{index_following}
use Rattle.dwarf.proofs.IndexLemmas.{name_fault, name_ends, entries_unended, code_unread, entries_ended, code_unknown, entry_refused, entries_more}
use Rattle.dwarf.proofs.name_index.Following.follow_name.Goals as goal

pub returns-in_err-code-clause-refused : goal.returns-in_err-code-clause-refused
returns-in_err-code-clause-refused c =
    let f = index_following c.args.self.now in
    let old = changes c.args.out.now in
    let bytes = c.in_ok-left.left.rest.now in
    let rest = c.entries.left.rest.now in
    let now = changes c.entries.out in
    let some : rest ≡ [] → ⊥ = search rules in
    let p = err_from_is_err_and c.from_residual-in_err-code.result c.from_residual-in_err-code.ensures.1 in
    let fault = c.in_err-code.field-0.0 in
    rw (p.1, p.2) (inr (_, refl, name_fault f c.args.offset old bytes c.in_ok-left.ensures.gives fault (code_unread f bytes old rest now c.entries.invariant.so_far some fault c.in_err-code.ensures.gives)))

pub returns-then-code-eq0-clause-followed : goal.returns-then-code-eq0-clause-followed
returns-then-code-eq0-clause-followed c =
    let f = index_following c.args.self.now in
    let old = changes c.args.out.now in
    let bytes = c.in_ok-left.left.rest.now in
    let rest = c.entries.left.rest.now in
    let now = changes c.entries.out in
    let after = c.unsigned.new.self.rest.now in
    let some : rest ≡ [] → ⊥ = search rules in
    let end : length c.args.self.now.index.pool.rest.now - length after ≡ c.saturating_sub.result = omega (arith, c.saturating_sub.ensures, ap length c.rest-size.ensures, ap length c.rest.ensures) in
    name_ends f c.args.offset old bytes c.in_ok-left.ensures.gives now after
    (entries_ended f bytes old rest now c.entries.invariant.so_far some c.in_ok-code.code after c.in_ok-code.ensures.gives c.if-code-eq0.true)
    ∙ ap (λ (n : ℕ). Ok (now, n)) end

pub returns-in_err-attributes-clause-refused : goal.returns-in_err-attributes-clause-refused
returns-in_err-attributes-clause-refused c =
    let f = index_following c.args.self.now in
    let old = changes c.args.out.now in
    let bytes = c.in_ok-left.left.rest.now in
    let rest = c.entries.left.rest.now in
    let now = changes c.entries.out in
    let after = c.unsigned.new.self.rest.now in
    let some : rest ≡ [] → ⊥ = search rules in
    let p = err_from_is_err_and c.from_residual-in_err-attributes.result c.from_residual-in_err-attributes.ensures.1 in
    let fault = c.in_err-attributes.field-0.0 in
    rw (p.1, p.2) (inr (
      _,
      refl,
      name_fault f c.args.offset old bytes c.in_ok-left.ensures.gives fault
          (code_unknown f bytes old rest now c.entries.invariant.so_far some c.in_ok-code.code after c.in_ok-code.ensures.gives c.if-code-eq0.false fault c.in_err-attributes.ensures),
    ))

pub entries-preserved : goal.entries-preserved
entries-preserved c =
    let f = index_following c.args.self.now in
    let old = changes c.args.out.now in
    let bytes = c.in_ok-left.left.rest.now in
    let rest = c.entries.left.rest.now in
    let now = changes c.entries.out in
    let after = c.unsigned.new.self.rest.now in
    let left = c.follow_entry.new.input.rest.now in
    let some : rest ≡ [] → ⊥ = search rules in
    let less : length left < length rest = omega (arith, c.in_ok-code.ensures.shorter, c.in_ok-follow_entry.ensures.shorter) in
    record {
      so_far = entries_more f bytes old rest now c.entries.invariant.so_far some c.in_ok-code.code after c.in_ok-code.ensures.gives c.if-code-eq0.false c.in_ok-attributes.attributes.now c.in_ok-attributes.ensures
          (changes c.follow_entry.new.out) left c.in_ok-follow_entry.ensures.followed less;
      same_end = c.in_ok-follow_entry.ensures.end ∙ c.in_ok-code.ensures.end ∙ c.entries.invariant.same_end;
    }

pub returns-in_err-follow_entry-clause-refused : goal.returns-in_err-follow_entry-clause-refused
returns-in_err-follow_entry-clause-refused c =
    let f = index_following c.args.self.now in
    let old = changes c.args.out.now in
    let bytes = c.in_ok-left.left.rest.now in
    let rest = c.entries.left.rest.now in
    let now = changes c.entries.out in
    let after = c.unsigned.new.self.rest.now in
    let some : rest ≡ [] → ⊥ = search rules in
    let p = err_from_is_err_and c.from_residual-in_err-follow_entry.result c.from_residual-in_err-follow_entry.ensures.1 in
    rw (p.1, p.2) (elim c.in_err-follow_entry.ensures.refused [
      | inl memory ↦ inl memory
      | inr x ↦ inr (
        x.0,
        x.1,
        name_fault f c.args.offset old bytes c.in_ok-left.ensures.gives x.0
            (entry_refused f bytes old rest now c.entries.invariant.so_far some c.in_ok-code.code after c.in_ok-code.ensures.gives c.if-code-eq0.false c.in_ok-attributes.attributes.now c.in_ok-attributes.ensures x.0 x.2),
      )
    ])

pub returns-clause-refused : goal.returns-clause-refused
returns-clause-refused c =
    let f = index_following c.args.self.now in
    let old = changes c.args.out.now in
    let bytes = c.in_ok-left.left.rest.now in
    let rest = c.entries.left.rest.now in
    let none : rest ≡ [] = search rules in
    inr (Truncated, refl, name_fault f c.args.offset old bytes c.in_ok-left.ensures.gives Truncated (entries_unended f bytes old rest (changes c.entries.out) c.entries.invariant.so_far none))
