-- A body that is refused: what the contracts of parsing and rewriting say about it.
use Rattle.std.proofs.Common.{◌≡◌, ◌⊎◌, ℕ, List, [], Option, Some, None, Result, Ok, Err, IfErr, inl, inr, subst, ap, ◌∙◌}
use Rattle.std.specs.Borrow.{Bor}
use Rattle.std.specs.Fn.{Shared}
use Rattle.wasm_body.specs.SourceTree.{Body}
use Rattle.wasm_body.specs.Naming.{Occurrence}
use Rattle.wasm_body.specs.declared.error.ParseError.TheVariants as parse
use Rattle.wasm_body.specs.declared.error.ParseFailure.{ParseFailure}
use Rattle.wasm_body.specs.Parsing.Accepted.{Setting, Accepted, FirstFault}
use Rattle.walrus_parser.specs.declared.body.FunctionBody.{FunctionBody}
use Rattle.walrus_parser.specs.Bodies.{body_input, body_setting, body_operators}
use Rattle.walrus_parser.specs.Settings.{BothOrNone}
use Rattle.walrus_numbering.specs.NumberMaps.{numbers_by}
use Rattle.walrus_rewrite.specs.declared.error.RewriteError.{RewriteError}
use Rattle.walrus_rewrite.specs.declared.error.RewriteError.TheVariants.{Parse, Walk, Emit}
use Rattle.walrus_rewrite.specs.RewrittenBodies.{RefusesRewriting}
use Rattle.wasm_sections.specs.declared.fault.ModuleError.{ModuleError}
use Rattle.wasm_sections.specs.Faults.{parse_fault, walk_fault, emit_fault}
use Rattle.wasm_module.specs.declared.parsed.ParsedModule.{ParsedModule}
use Rattle.wasm_sections.specs.CodeSections.{BodyAt}
use Rattle.wasm_sections.specs.LocalsBelow.{locals_below}
use Rattle.wasm_module.specs.RewrittenCode.{Extends, Enters}
use Rattle.wasm_module.specs.Refusals.{rewriting_fault, place_in_file, HasFirstFault, IsRefusedBody, IsNotRewritten}
use Rattle.wasm_module.proofs.RewritingLemmas.{entered_then}

-- ---- a parse

pub refused :
    (source now : ParsedModule) (function : ℕ) (b : BodyAt) (type id : ℕ) (args : List ℕ) (count : ℕ) (body : FunctionBody) (f : ParseFailure) (e : ModuleError) →
    Enters source function b now type args count body → id ≡ 0 →
    (f.error ≡ parse.Memory) ⊎ FirstFault (body_setting now.module now.spaces.indices id type body locals_below count None) (body_operators body) f →
    e.fault ≡ parse_fault f.error → e.at ≡ f.at → IsRefusedBody source function b now e
refused source now function b type id args count body f e enters is_first r named place =
    elim r [
      | inl memory ↦ inl (named ∙ ap parse_fault memory)
      | inr fault ↦ inr (inr (record {
        entered = record { type = type; args = args; count = count; body = body; enters = enters };
        failure = f;
        is_first =
            subst (λ (n : ℕ). FirstFault (body_setting now.module now.spaces.indices n type body locals_below count None) (body_operators body) f) is_first fault;
        fault = named;
        place = place;
      }))
    ]

-- ---- a rewriting

-- no location function
abbrev no_location_function : (F : Type 0) → Option (Bor F)
no_location_function F = None

-- without a location function there is none
accepted_without :
    (F : Type 0) (given : Option (ℕ → ℕ) → Setting ℕ) (bytes : List ℕ) (tree : Body Occurrence) (locations : Option (ℕ → ℕ)) → BothOrNone (no_location_function F) locations →
    Accepted (given locations) bytes tree → Accepted (given None) bytes tree
accepted_without F given bytes tree None none a = a
accepted_without F given bytes tree (Some l) none a = absurd none

pub first_alone :
    (F : Type 0) (given : Option (ℕ → ℕ) → Setting ℕ) (bytes : List ℕ) (f : ParseFailure) →
    (f.error ≡ parse.Memory) ⊎ ((locations : Option (ℕ → ℕ)) → BothOrNone (no_location_function F) locations → FirstFault (given locations) bytes f) →
    (f.error ≡ parse.Memory) ⊎ FirstFault (given None) bytes f
first_alone F given bytes f (inl memory) = inl memory
first_alone F given bytes f (inr fault) = inr (fault None tt)

pub not_rewritten :
    (F : Type 0) (calls : Shared F (Bor ℕ × Unit {0}) ℕ)
    (source now : ParsedModule) (function : ℕ) (b : BodyAt) (type id : ℕ) (args : List ℕ) (count : ℕ) (body : FunctionBody) (start : ℕ) (x : RewriteError) (e : ModuleError) →
    Enters source function b now type args count body → id ≡ 0 → start ≡ b.start →
    RefusesRewriting calls (body_input now.module now.spaces.indices id type body (no_location_function F) locals_below count)
    (record { to = numbers_by now.module.types now.spaces.numbers []; types = now.module.locals; args = args }) x → e.fault ≡ rewriting_fault x → e.at ≡ place_in_file start x →
    IsNotRewritten source function b now e
not_rewritten F calls source now function b type id args count body start (Parse f) e enters is_first same r named place =
    inl (refused source now function b type id args count body f e enters is_first (first_alone F (λ locations. body_setting now.module now.spaces.indices id type body locals_below count locations) (body_operators body) f r) named place)
not_rewritten F calls source now function b type id args count body start (Walk w) e enters is_first same r named place = inl (inl (named ∙ ap walk_fault r))
not_rewritten F calls source now function b type id args count body start (Emit x) e enters is_first same r named place =
    let At : ℕ → Type 0 =
    λ n. RefusesRewriting calls (body_input now.module now.spaces.indices n type body (no_location_function F) locals_below count)
    (record { to = numbers_by now.module.types now.spaces.numbers []; types = now.module.locals; args = args }) (Emit x) in
    elim (subst At is_first r) [
      | inl memory ↦ inl (inl (named ∙ ap emit_fault memory))
      | inr none ↦ inr (record {
        entered = record { type = type; args = args; count = count; body = body; enters = enters };
        tree = none.0;
        accepted =
            accepted_without F (λ locations. body_setting now.module now.spaces.indices 0 type body locals_below count locations) (body_operators body) none.0
            none.1.locations none.1.are_given none.1.accepted;
        error = x;
        has_none = none.2;
        fault = named;
        place = place ∙ same;
      })
    ]

-- the same, with arguments that are these
pub not_rewritten_flat :
    (F : Type 0) (calls : Shared F (Bor ℕ × Unit {0}) ℕ)
    (source now : ParsedModule) (function : ℕ) (b : BodyAt) (type id : ℕ) (given args : List ℕ) (count : ℕ) (body : FunctionBody) (start : ℕ) (x : RewriteError) (e : ModuleError) →
    Enters source function b now type args count body → id ≡ 0 → start ≡ b.start → given ≡ args →
    RefusesRewriting calls (body_input now.module now.spaces.indices id type body (no_location_function F) locals_below count)
    (record { to = numbers_by now.module.types now.spaces.numbers []; types = now.module.locals; args = given }) x → e.fault ≡ rewriting_fault x → e.at ≡ place_in_file start x →
    IsNotRewritten source function b now e
not_rewritten_flat F calls source now function b type id given args count body start x e enters is_first same args_are r named place =
    let At : List ℕ → Type 0 =
    λ xs. RefusesRewriting calls (body_input now.module now.spaces.indices id type body (no_location_function F) locals_below count)
    (record { to = numbers_by now.module.types now.spaces.numbers []; types = now.module.locals; args = xs }) x in
    not_rewritten F calls source now function b type id args count body start x e enters is_first same (subst At args_are r) named place

-- ---- in a module that extends the source

fault_then : (source a now : ParsedModule) (function : ℕ) (b : BodyAt) (e : ModuleError) → Extends source a → HasFirstFault a function b now e → HasFirstFault source function b now e
fault_then source a now function b e extends p = record {
  entered = entered_then source a now function b extends p.entered;
  failure = p.failure;
  is_first = p.is_first;
  fault = p.fault;
  place = p.place;
}

pub refused_then : (source a now : ParsedModule) (function : ℕ) (b : BodyAt) (e : ModuleError) → Extends source a → IsRefusedBody a function b now e → IsRefusedBody source function b now e
refused_then source a now function b e extends r =
    elim r [
      | inl memory ↦ inl memory
      | inr other ↦ elim other [
        | inl none ↦ inr (inl none)
        | inr fault ↦ inr (inr (fault_then source a now function b e extends fault))
      ]
    ]

pub if_refused_then :
    {A : Type 0} (source a now : ParsedModule) (function : ℕ) (b : BodyAt) (r : Result A ModuleError) → Extends source a → IfErr r (IsRefusedBody a function b now) →
    IfErr r (IsRefusedBody source function b now)
if_refused_then source a now function b (Ok x) extends p = tt
if_refused_then source a now function b (Err e) extends p = refused_then source a now function b e extends p

pub if_not_rewritten_then :
    {A : Type 0} (source a now : ParsedModule) (function : ℕ) (b : BodyAt) (r : Result A ModuleError) → Extends source a → IfErr r (IsNotRewritten a function b now) →
    IfErr r (IsNotRewritten source function b now)
if_not_rewritten_then source a now function b (Ok x) extends p = tt
if_not_rewritten_then source a now function b (Err e) extends p =
    elim p [
      | inl refused ↦ inl (refused_then source a now function b e extends refused)
      | inr none ↦ inr (record {
        entered = entered_then source a now function b extends none.entered;
        tree = none.tree;
        accepted = none.accepted;
        error = none.error;
        has_none = none.has_none;
        fault = none.fault;
        place = none.place;
      })
    ]
