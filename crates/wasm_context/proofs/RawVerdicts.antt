-- The operators of an accepted body have the same verdict as they are encoded and by their names.
use Rattle.std.proofs.Common.{◌≡◌, ℕ, List, [], ◌∷◌, map, Result, Ok, Err, refl, sym, ap, ◌∙◌}
use Rattle.std.specs.Prelude.{Option, Some, None, option_and_then, slice_get}
use Rattle.std.specs.List.{AllByRecursion}
use Rattle.std.specs.Result.{result_ok}
use Rattle.wasm_numbers.specs.Results.{◌>>=◌, with_fault}
use Rattle.walrus_ir.specs.Types.{Signature, signature_of}
use Rattle.wasm_operators.specs.Operations.{RawOperation}
use Rattle.wasm_body.specs.Control.{Marked, control_of}
use Rattle.wasm_body.specs.SourceTree.{Body}
use Rattle.wasm_body.specs.Frames.{SequenceFrame}
use Rattle.wasm_body.specs.Translation.{translate}
use Rattle.wasm_body.specs.Naming.{Environment, NamedOperation, Occurrence, naming, named_in}
use Rattle.wasm_body.specs.NormalForm.{Typing, typing_of, parameters_or_none, name_at}
use Rattle.wasm_body.specs.Parsing.Accepted.{mark, placed, Lawful}
use Rattle.wasm_body.specs.Validity.{Checked, Refusal, required, step_in, validate}
use Rattle.wasm_body.proofs.Parsing.NamingLemmas.{named_parts}
use Rattle.wasm_body.proofs.Bytes.LawfulTyped.{named_somewhere}
use Rattle.wasm_typing.specs.Contexts.{function_type_in}
use Rattle.wasm_typing.specs.StandardRules.{standard_rules}
use Rattle.wasm_context.specs.Validation.{BodyContext, BodyState, parameters_of, typing_in, named_step, raw_step, refusal_number, steps_through}
use Rattle.wasm_context.specs.ValidationLaws.{IsModuleOfContext, SameNames, SameVerdicts}
use Rattle.wasm_context.proofs.RawNames.{same_name}
use Rattle.wasm_context.proofs.TagsDecide.{same_step}

parameters_alike : (r : Checked Signature) → parameters_of r ≡ parameters_or_none (result_ok r)
parameters_alike (Ok s) = refl
parameters_alike (Err e) = refl

-- the operator has this name in some frames
abbrev HasName : Environment → Occurrence → Type 0
HasName env x = (fs : List (SequenceFrame Occurrence)) × (translate (naming env fs) x.spelt ≡ Ok x.named)

have_names : (env : Environment) (xs : List Occurrence)
    → AllByRecursion (λ (x : Marked Occurrence). (fs : List (SequenceFrame Occurrence)) × (named_in env fs x.shown.spelt ≡ Ok x.shown.named)) (map mark xs)
    → AllByRecursion (HasName env) xs
have_names env [] h = tt
have_names env (x ∷ xs) h = ((h.0.0, (named_parts env h.0.0 x.spelt x.named h.0.1).translated), have_names env xs h.1)

module _ (env : Environment) (c : BodyContext) (alike : IsModuleOfContext env c) where
  tag_alike : (type : Option ℕ) → parameters_of (required type >>= λ t. function_type_in c.operands t) ≡ parameters_or_none (option_and_then (signature_of env.types) type)
  tag_alike None = refl
  tag_alike (Some t) = parameters_alike (function_type_in c.operands t) ∙ sym (ap parameters_or_none (alike.function t))

  tags_alike : (tag : ℕ) → (typing_in c).tag_parameters tag ≡ (typing_of env).tag_parameters tag
  tags_alike tag =
      tag_alike (slice_get c.tags tag) ∙ sym (ap (λ ts. parameters_or_none (option_and_then (signature_of env.types) (slice_get ts tag))) alike.tags)

  abbrev step_by_name : NamedOperation → BodyState → Checked BodyState
  step_by_name n s = step_in (typing_of env) (standard_rules c.operands) (control_of n) n s.stacks s.controls

  step_is : (x : Occurrence) → HasName env x → (s : BodyState) → raw_step c x.spelt s ≡ step_by_name x.named s
  step_is x h s =
      ap (λ r. r >>= λ n. named_step c n s) (same_name env c alike h.0 x.spelt x.named h.1)
      ∙ same_step (typing_in c) (typing_of env) (standard_rules c.operands) tags_alike (control_of x.named) x.named s.stacks s.controls

  abbrev numbered : {X : Type 0} → Checked X → Result X ℕ
  numbered r = with_fault (λ e. refusal_number) r

  abbrev Alike : List Occurrence → BodyState → Type 0
  Alike xs s = steps_through c s (map placed xs) ≡ numbered (validate (typing_of env) (standard_rules c.operands) (map name_at xs) s)

  after_step : (xs : List Occurrence) → ((s : BodyState) → Alike xs s) → (r : Checked BodyState)
      → (numbered r >>= λ w. steps_through c w (map placed xs)) ≡ numbered (r >>= λ next. validate (typing_of env) (standard_rules c.operands) (map name_at xs) next)
  after_step xs h (Ok next) = h next
  after_step xs h (Err e) = refl

  verdicts_alike : (xs : List Occurrence) → AllByRecursion (HasName env) xs → (s : BodyState) → Alike xs s
  verdicts_alike [] h s = refl
  verdicts_alike (x ∷ xs) h s =
      ap (λ r. numbered r >>= λ w. steps_through c w (map placed xs)) (step_is x h.0 s) ∙ after_step xs (verdicts_alike xs h.1) (step_by_name x.named s)

pub same_names : SameNames
same_names env c alike fs o n e = same_name env c alike fs o n e

pub same_verdicts : SameVerdicts
same_verdicts env c alike xs b lawful s = verdicts_alike env c alike xs (have_names env xs (named_somewhere env xs b lawful)) s
