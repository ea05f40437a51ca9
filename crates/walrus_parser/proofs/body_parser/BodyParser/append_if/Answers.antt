use Rattle.std.proofs.Common.{◌≡◌, ◌⊎◌, ◌≤◌, ℕ, List, [], ◌∷◌, length, Option, Some, None, inl, inr, refl, sym, ◌∙◌, arith}
use Rattle.std.specs.Option.{option_or}
use Rattle.std.proofs.lemmas.Result.{on_ok_weaker, IfErr-weaker}
use Rattle.wasm_body.specs.declared.error.ParseError.{ParseError}
use Rattle.wasm_body.specs.declared.error.ParseError.TheVariants.{Memory, NoFrame}
use Rattle.walrus_parser.specs.BodyParsers.{either, HasNoIf}
use Rattle.walrus_parser.proofs.body_parser.BodyParser.append_if.Goals as goal

either_is : (a b : Option ℕ) → either a b ≡ option_or a b
either_is (Some n) b = refl
either_is None b = refl

none_in : {A : Type 0} (xs : List A) → length xs ≤ 0 → xs ≡ []
none_in [] h = refl
none_in (x ∷ xs) h = absurd (omega (arith, h))

pub returns-clause-ok : goal.returns-clause-ok
returns-clause-ok c =
    let top = c.in-Some.top in
    on_ok_weaker c.alloc_instr.result (λ changes. record {
      top = top;
      popped = c.in-Some.ensures.items;
      id = c.in-Some-or.alternative;
      chosen = either_is c.args.alternative top.alternative ∙ (sym c.or.ensures ∙ c.in-Some-or.is);
      is = changes.1;
    }) c.alloc_instr.ensures.ok

pub returns-clause-err : goal.returns-clause-err
returns-clause-err c =
    let old = c.args.self.now in
    IfErr-weaker c.alloc_instr.result _ (λ e. (e ≡ Memory) ⊎ HasNoIf old c.args.alternative) (λ e h. elim h [
      | inl memory ↦ inl memory
      | inr no_frame ↦ inr (inr (inr (none_in old.context.frames no_frame.1)))
    ]) c.alloc_instr.ensures.err
