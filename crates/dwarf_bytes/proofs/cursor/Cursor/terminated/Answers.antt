use Rattle.std.proofs.Common.{◌≡◌, ℕ, eqb, List, Option, sym, ap, subst, ◌∙◌, rules, tests}
use Rattle.std.specs.Prelude.{position}
use Rattle.std.proofs.lemmas.Iterator.{YieldsList-from_slice}
use Rattle.std.proofs.lemmas.Iterator.Search.{position_from_yields_List}
use Rattle.wasm_numbers.specs.Results.{Gives}
use Rattle.dwarf_bytes.specs.Numbers.{up_to_zero}
use Rattle.dwarf_bytes.proofs.cursor.Cursor.terminated.Goals as goal
use Rattle.dwarf_bytes.proofs.cursor.Cursor.terminated.Goals.{After-position-zero_at}

-- the first zero byte
found : (c : After-position-zero_at) → c.position-zero_at.result ≡ position (λ b. eqb b 0) c.args.self.now.rest.now
found c =
    position_from_yields_List (λ b. eqb b 0) _ _ c.position-zero_at.result c.position-zero_at.ensures.ran (YieldsList-from_slice c.args.self.now.rest.now cc)
    (λ x b q k. search (rules, tests))

pub returns-in-Some-clause-gives : goal.returns-in-Some-clause-gives
returns-in-Some-clause-gives c =
    let is = sym c.in-Some.is ∙ found (goal.at.returns-in-Some-clause-gives c).After-position-zero_at in
    subst (λ (o : Option ℕ). Gives (λ x. (x.now, c.bytes.new.self.rest.now)) c.bytes.result (up_to_zero o c.args.self.now.rest.now)) is c.bytes.ensures.gives

pub returns-in-None-clause-gives : goal.returns-in-None-clause-gives
returns-in-None-clause-gives c =
    let is = sym c.in-None.is ∙ found (goal.at.returns-in-None-clause-gives c).After-position-zero_at in
    ap (λ (o : Option ℕ). up_to_zero o c.args.self.now.rest.now) (sym is)
