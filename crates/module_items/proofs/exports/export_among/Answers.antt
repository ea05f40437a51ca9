use Rattle.std.proofs.Common.{◌≡◌, ℕ, ◌-◌, List, length, take, Some, Result, Ok, refl, sym, ap, subst, ◌∙◌, arith, add-one}
use Rattle.std.proofs.lemmas.Bool.Decides.{Decides-eqb}
use Rattle.std.proofs.lemmas.Slice.Eq.{slice_eq-Decides}
use Rattle.wasm_numbers.specs.Results.{◌>>=◌}
use Rattle.wasm_operators.specs.declared.types.Space.{Space}
use Rattle.wasm_sections.specs.declared.exports.Export.{Export}
use Rattle.wasm_sections.specs.declared.fault.ModuleError.{ModuleError}
use Rattle.wasm_sections.specs.declared.sections.SectionKind.TheVariants as kind
use Rattle.wasm_sections.specs.Format.{export_part}
use Rattle.wasm_sections.specs.Parts.{passed, repeated}
use Rattle.wasm_sections.specs.Views.{TakesItem, export_value}
use Rattle.wasm_sections.proofs.ExportNameLemmas.{none_before, one_other, none_named}
use Rattle.module_items.specs.Items.{item_part}
use Rattle.module_items.proofs.RepeatingLemmas.{no_step, repeated_more}
use Rattle.module_items.proofs.exports.export_among.Goals as goal

pub exports-init : goal.exports-init
exports-init c = record {
  same_end = refl;
  count = omega arith;
  none = none_before c.args.name.now c.args.items c.args.items refl;
  passed = no_step {A = Unit {0}} (λ u. item_part kind.Export) tt c.args.items.left.end c.args.items.left.rest.now;
}

pub returns-then-eq : goal.returns-then-eq
returns-then-eq c =
    let end = c.args.items.left.end in
    let text = c.args.items.left.rest.now in
    let front = c.exports.exports.items.left.rest.now in
    let following = c.next.new.self.items.left.rest.now in
    let takes =
    subst (λ (r : Result Export ModuleError). TakesItem export_part export_value (λ x. x.at) c.exports.exports.items (Some r) c.next.new.self.items)
    c.in-Some-Ok.field-0-is c.in-Some-Ok.ensures.steps in
    let export = c.in-Some-Ok.export in
    let same = slice_eq-Decides Decides-eqb export.name.now c.args.name.now c.eq.result c.eq.ensures in
    record {
      found = record {
        is_there = c.exports-test.true;
        before = take (length text - length front) text;
        front = front;
        passed = ap (λ (r : Result (Unit {0} × List ℕ) ModuleError). r >>= λ x. Ok (take (length text - length x.1) text, x.1)) c.exports.invariant.passed;
        following = following;
        export =
            ap (λ (n : ℕ). export_part n front) (sym c.exports.invariant.same_end)
            ∙ takes.0
            ∙ ap (λ (l : List ℕ). Ok ((l, export.space, export.index), following)) (same.0 c.if-eq.true);
      };
    }

pub returns-in-None : goal.returns-in-None
returns-in-None c = record {
  found = λ h. none_named c.args.name.now c.args.items c.exports.exports.items c.exports.invariant.none c.in-None.ensures.steps h;
}

pub exports-preserved : goal.exports-preserved
exports-preserved c =
    let end = c.args.items.left.end in
    let text = c.args.items.left.rest.now in
    let at = c.exports.exports.items in
    let next = c.next.new.self.items in
    let export = c.in-Some-Ok.export in
    let takes =
    subst (λ (r : Result Export ModuleError). TakesItem export_part export_value (λ x. x.at) c.exports.exports.items (Some r) c.next.new.self.items)
    c.in-Some-Ok.field-0-is c.in-Some-Ok.ensures.steps in
    let same = slice_eq-Decides Decides-eqb export.name.now c.args.name.now c.eq.result c.eq.ensures in
    let is : item_part kind.Export end at.left.rest.now ≡ Ok (tt, next.left.rest.now) =
    ap (λ (n : ℕ). passed export_part n at.left.rest.now) (sym c.exports.invariant.same_end)
    ∙ ap (λ (r : Result ((List ℕ × Space × ℕ) × List ℕ) ModuleError). r >>= λ x. Ok (tt, x.1)) takes.0 in
    record {
      same_end = takes.2 ∙ c.exports.invariant.same_end;
      count = let left = takes.3 in let total = c.exports.invariant.count in omega (arith, left, total);
      none = one_other c.args.name.now c.args.items at next export c.exports.invariant.none takes
          (λ e. let yes = same.1 e in let no = c.if-eq.false in absurd cc);
      passed =
          ap (λ (n : ℕ). repeated (λ (u : Unit {0}). item_part kind.Export) n tt end text) (add-one c.exports.place)
          ∙ repeated_more {A = Unit {0}} (λ u. item_part kind.Export) c.exports.place tt tt tt end text at.left.rest.now next.left.rest.now
          c.exports.invariant.passed is;
    }

pub returns : goal.returns
returns c =
    let total = c.exports.invariant.count in
    let done = c.exports-test.false in
    record {
      found = λ h. none_named c.args.name.now c.args.items c.exports.exports.items c.exports.invariant.none (omega (arith, total, done)) h;
    }
