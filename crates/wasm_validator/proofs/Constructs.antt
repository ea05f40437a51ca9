-- Operators that open, part and close constructs.
use Rattle.std.proofs.Common.{◌≡◌, ◌≢◌, ◌-◌, ◌<◌, ℕ, zero, suc, List, [], ◌∷◌, length, Bool, true, false, Result, Ok, Err, refl, sym, ap, ◌∙◌, subst, arith}
use Rattle.std.specs.Prelude.{OnOk, IfErr}
use Rattle.std.proofs.lemmas.List.{drop_all}
use Rattle.wasm_types.specs.declared.val_type.ValType.{ValType}
use Rattle.wasm_types.specs.declared.val_type.ValType.TheVariants.{I32}
use Rattle.walrus_ir.specs.Types.{Signature}
use Rattle.wasm_numbers.specs.Results.{◌>>=◌}
use Rattle.wasm_operators.specs.declared.types.BlockType.{BlockType}
use Rattle.wasm_operators.specs.declared.types.Opcode.{Opcode}
use Rattle.wasm_operators.specs.declared.types.Opcode.TheVariants.{Byte}
use Rattle.wasm_operators.specs.declared.types.Space.TheVariants.{Tags}
use Rattle.wasm_operators.specs.Operations.{Immediate, block, index, operation}
use Rattle.wasm_body.specs.Control.{end_operation}
use Rattle.wasm_body.specs.Validity as algorithm
use Rattle.wasm_body.specs.Validity.{ControlFrame, Stacks, Checked, refused, demand, is_if, is_try, may_catch, up_to}
use Rattle.wasm_body.specs.ValidityLaws.{KnownOperand}
use Rattle.wasm_typing.specs.StandardRules.{standard_rules}
use Rattle.wasm_context.specs.Validation.{BodyContext, BodyState, typing_in, named_block_type, tag_signature, parameters_of, named_step, raw_step}
use Rattle.wasm_validator.specs.declared.fault.Fault.{Fault}
use Rattle.wasm_validator.specs.declared.fault.Fault.TheVariants as fault
use Rattle.wasm_validator.specs.declared.frame.Opened.{Opened}
use Rattle.wasm_validator.specs.declared.frame.Opened.TheVariants as opened
use Rattle.wasm_validator.specs.declared.state.Validator.{Validator}
use Rattle.wasm_context.specs.TypeLists.{types_in, signature_of_block}
use Rattle.wasm_context.specs.declared.blocks.BlockTypes.{BlockTypes}
use Rattle.wasm_context.specs.declared.blocks.TypeList.{TypeList}
use Rattle.wasm_context.specs.declared.context.Context.{Context}
use Rattle.wasm_validator.specs.WellFormed.{is_function_frame, AreNested}
use Rattle.wasm_validator.specs.declared.frame.Frame.{Frame}
use Rattle.wasm_validator.specs.States.{Known, opened_of, locals_height_of, control_frame, frames_onto}
use Rattle.wasm_validator.specs.Steps.{ResultsIn, setting_of, arguments_of, stacks_of, operand_stack, inner_of, outer_of, open_state, ended_of, pop_in, pop_all_in, pop_control_in, push_each_in, EntersFrame, OpensFrame, Leaves}
use Rattle.wasm_validator.specs.Core.{step_of, open_frames, with_stack, begin_from, begin_in, begins_in, begins_if_with, begins_if, next_in, given_in, elses_in, ends_in, catches_in, delegates_in}
use Rattle.wasm_validator.proofs.StepResults.{nested, refuses}
use Rattle.wasm_validator.proofs.Frames.{closes, closes_not, length_frames}
use Rattle.wasm_validator.proofs.WellFormed.{before}

-- ---- named operators

abbrev with_type : Signature → Immediate ℕ Signature
with_type x = block x

abbrev with_index : ℕ → Immediate ℕ Signature
with_index n = index Tags n

-- with a block type
with_block : (b : BodyContext) (o : Opcode) (s : BodyState) (a : Checked Signature)
    → (((a >>= λ x. Ok (with_type x)) >>= λ y. Ok (y ∷ [])) >>= λ is. Ok (operation o is)) >>= (λ n. named_step b n s) ≡ (a >>= λ x. named_step b (operation o (block x ∷ [])) s)
with_block b o s (Ok x) = refl
with_block b o s (Err e) = refl

pub raw_block : (b : BodyContext) (o : Opcode) (t : BlockType) (s : BodyState) → raw_step b (operation o (block t ∷ [])) s ≡ (named_block_type b t >>= λ x. named_step b (operation o (block x ∷ [])) s)
raw_block b o t s = with_block b o s (named_block_type b t)

-- with a tag
with_tag : (b : BodyContext) (o : Opcode) (n : ℕ) (s : BodyState) (a : Checked Signature)
    → ((((a >>= λ x. Ok n) >>= λ m. Ok (with_index m)) >>= λ y. Ok (y ∷ [])) >>= λ is. Ok (operation o is)) >>= (λ k. named_step b k s)
    ≡ (a >>= λ x. named_step b (operation o (index Tags n ∷ [])) s)
with_tag b o n s (Ok x) = refl
with_tag b o n s (Err e) = refl

pub raw_tag : (b : BodyContext) (o : Opcode) (n : ℕ) (s : BodyState)
    → raw_step b (operation o (index Tags n ∷ [])) s ≡ (tag_signature b n >>= λ x. named_step b (operation o (index Tags n ∷ [])) s)
raw_tag b o n s = with_tag b o n s (tag_signature b n)

-- ---- operators that open a construct

pub block_is : (v : Validator) (t : BlockType) → raw_step (setting_of v) (operation (Byte 0x02) (block t ∷ [])) (open_state v) ≡ begins_in v opened.Block t
block_is v t = raw_block (setting_of v) (Byte 0x02) t (open_state v)

pub loop_is : (v : Validator) (t : BlockType) → raw_step (setting_of v) (operation (Byte 0x03) (block t ∷ [])) (open_state v) ≡ begins_in v opened.Loop t
loop_is v t = raw_block (setting_of v) (Byte 0x03) t (open_state v)

pub try_is : (v : Validator) (t : BlockType) → raw_step (setting_of v) (operation (Byte 0x06) (block t ∷ [])) (open_state v) ≡ begins_in v opened.Try t
try_is v t = raw_block (setting_of v) (Byte 0x06) t (open_state v)

-- the condition of an `if`, and what follows
by_types : (v : Validator) (a : Checked Signature) → (a >>= λ x. step_of v (operation (Byte 0x04) (block x ∷ []))) ≡ (a >>= begins_if_with v)
by_types v (Err e) = refl
by_types v (Ok x) =
    nested (pop_in (setting_of v) (inner_of v) I32 (operand_stack v))
    (λ xs. algorithm.popping (typing_in (setting_of v)) (standard_rules (setting_of v).operands) (inner_of v) x.parameters (with_stack v xs))
    (λ t. Ok (algorithm.push_control (typing_in (setting_of v)) (standard_rules (setting_of v).operands) algorithm.OfIf x.parameters x.results t (open_frames v)))

pub if_is : (v : Validator) (t : BlockType) → raw_step (setting_of v) (operation (Byte 0x04) (block t ∷ [])) (open_state v) ≡ begins_if v t
if_is v t = raw_block (setting_of v) (Byte 0x04) t (open_state v) ∙ by_types v (named_block_type (setting_of v) t)

-- ---- operators that part a construct

pub catch_is : (v : Validator) (tag : ℕ) (s : Signature) → tag_signature (setting_of v) tag ≡ Ok s
    → catches_in v tag ≡ next_in v (may_catch (opened_of v.inner.opened)) opened.Catch s.parameters
catch_is v tag s h = ap (λ a. a >>= λ t. next_in v (may_catch (opened_of v.inner.opened)) opened.Catch (parameters_of a)) h

pub catch_refused : (v : Validator) (tag : ℕ) → tag_signature (setting_of v) tag ≡ Err refused → catches_in v tag ≡ Err refused
catch_refused v tag h = ap (λ a. a >>= λ t. next_in v (may_catch (opened_of v.inner.opened)) opened.Catch (parameters_of a)) h

pub next_refused : (v : Validator) (allowed : Bool) (o : Opened) (starts : List (ValType ℕ)) → allowed ≡ false → next_in v allowed o starts ≡ Err refused
next_refused v allowed o starts h =
    refuses (pop_control_in (setting_of v) (inner_of v) (stacks_of v))
    (λ t. demand allowed >>= λ u. Ok (algorithm.push_control (typing_in (setting_of v)) (standard_rules (setting_of v).operands) (opened_of o) starts (inner_of v).end_types t (outer_of v)))
    (λ t. ap (λ b. demand b >>= λ u. Ok (algorithm.push_control (typing_in (setting_of v)) (standard_rules (setting_of v).operands) (opened_of o) starts (inner_of v).end_types t (outer_of v))) h)

-- the frame was closed, and another takes its place
pub next_done : (v w x : Validator) (allowed : Bool) (o : Opened) (starts : TypeList) (r : Result (Unit {0}) Fault) → allowed ≡ true
    → pop_control_in (setting_of v) (inner_of v) (stacks_of v) ≡ Ok (stacks_of w) → w ≡ record v { operands = w.operands; set = w.set }
    → OnOk r (EntersFrame w x o starts w.inner.ends) → IfErr r (λ e. e ≡ fault.Memory) → ResultsIn (next_in v allowed o (types_in v.context.now starts)) r (open_state x)
next_done v w x allowed o starts (Err fault.Memory) a p same h e = tt
next_done v w x allowed o starts (Err fault.Refused) a p same h e = absurd cc
next_done v w x allowed o starts (Ok u) a p same h e =
    let opens : Validator → List (ValType ℕ) → Stacks KnownOperand → BodyState = λ z ts t.
    algorithm.push_control (typing_in (setting_of z)) (standard_rules (setting_of z).operands) (opened_of o) ts (types_in z.context.now z.inner.ends) t (outer_of z) in
    let s = stacks_of w in
    ap (λ b. b >>= λ t. demand allowed >>= λ q. Ok (opens v (types_in v.context.now starts) t)) p
    ∙ ap (λ b. demand b >>= λ q. Ok (opens v (types_in v.context.now starts) s)) a
    ∙ ap (λ (z : Validator). Ok (opens z (types_in z.context.now starts) s)) (sym same)
    ∙ ap Ok (sym h)

-- ---- operators that close a construct

-- The frame is closed.
abbrev Closed : (v w : Validator) → Type 0
Closed v w = (pop_control_in (setting_of v) (inner_of v) (stacks_of v) ≡ Ok (stacks_of w)) × (w ≡ record v { operands = w.operands; set = w.set })

abbrev given_by : Validator → Stacks KnownOperand → BodyState
given_by z t = algorithm.given (typing_in (setting_of z)) (standard_rules (setting_of z).operands) (inner_of z).end_types t (outer_of z)

same_given : (v w : Validator) → w ≡ record v { operands = w.operands; set = w.set } → given_by v (stacks_of w) ≡ given_in w
same_given v w same = let s = stacks_of w in ap (λ (z : Validator). given_by z s) (sym same)

no_alternative : (o : algorithm.Opened) (b : BodyContext) (f : ControlFrame) (t : Stacks KnownOperand) → is_if o ≡ false
    → algorithm.checks_end (typing_in b) (standard_rules b.operands) o f t ≡ Ok t
no_alternative algorithm.OfIf b f t h = absurd cc
no_alternative algorithm.OfFunction b f t h = refl
no_alternative algorithm.OfBlock b f t h = refl
no_alternative algorithm.OfLoop b f t h = refl
no_alternative algorithm.OfElse b f t h = refl
no_alternative algorithm.OfTryTable b f t h = refl
no_alternative algorithm.OfTry b f t h = refl
no_alternative algorithm.OfCatch b f t h = refl
no_alternative algorithm.OfCatchAll b f t h = refl

pub ends_given : (v w : Validator) → is_if (opened_of v.inner.opened) ≡ false → pop_control_in (setting_of v) (inner_of v) (stacks_of v) ≡ Ok (stacks_of w)
    → w ≡ record v { operands = w.operands; set = w.set } → ends_in v ≡ Ok (given_in w)
ends_given v w h p same =
    let after : Stacks KnownOperand → Checked BodyState = λ t. Ok (given_by v t) in
    ap (λ a. a >>= λ t. algorithm.checks_end (typing_in (setting_of v)) (standard_rules (setting_of v).operands) (opened_of v.inner.opened) (inner_of v) t >>= after) p
    ∙ ap (λ a. a >>= after) (no_alternative (opened_of v.inner.opened) (setting_of v) (inner_of v) (stacks_of w) h)
    ∙ ap Ok (same_given v w same)

-- the `end` of an `if` is `else end`
else_end : (v : Validator) (f : ControlFrame) (fs : List ControlFrame) (a : Checked (Stacks KnownOperand)) (o : algorithm.Opened) → is_if o ≡ true
    → (a >>= λ t. algorithm.checks_end (typing_in (setting_of v)) (standard_rules (setting_of v).operands) o f t >>= λ u. Ok (algorithm.given (typing_in (setting_of v)) (standard_rules (setting_of v).operands) f.end_types u fs))
    ≡ ((a >>= λ t. demand (is_if o) >>= λ u. Ok (algorithm.push_control (typing_in (setting_of v)) (standard_rules (setting_of v).operands) algorithm.OfElse f.start_types f.end_types t fs))
    >>= named_step (setting_of v) end_operation)
else_end v f fs (Err e) o h = refl
else_end v f fs (Ok t) algorithm.OfIf h = refl
else_end v f fs (Ok t) algorithm.OfFunction h = absurd cc
else_end v f fs (Ok t) algorithm.OfBlock h = absurd cc
else_end v f fs (Ok t) algorithm.OfLoop h = absurd cc
else_end v f fs (Ok t) algorithm.OfElse h = absurd cc
else_end v f fs (Ok t) algorithm.OfTryTable h = absurd cc
else_end v f fs (Ok t) algorithm.OfTry h = absurd cc
else_end v f fs (Ok t) algorithm.OfCatch h = absurd cc
else_end v f fs (Ok t) algorithm.OfCatchAll h = absurd cc

pub if_ends : (v : Validator) → is_if (opened_of v.inner.opened) ≡ true → ends_in v ≡ (elses_in v >>= named_step (setting_of v) end_operation)
if_ends v h = else_end v (inner_of v) (outer_of v) (pop_control_in (setting_of v) (inner_of v) (stacks_of v)) (opened_of v.inner.opened) h

-- ---- the function

abbrev function_end : Validator → Stacks KnownOperand → (o : algorithm.Opened) → List ControlFrame → Checked BodyState
function_end v t o fs =
    algorithm.checks_end (typing_in (setting_of v)) (standard_rules (setting_of v).operands) o (inner_of v) t >>= λ u.
    Ok (algorithm.given (typing_in (setting_of v)) (standard_rules (setting_of v).operands) (inner_of v).end_types u fs)

no_locals : (o : algorithm.Opened) (initial set : ℕ) (ls : List ℕ) → is_function_frame o ≡ true → up_to (locals_height_of o initial set) ls ≡ []
no_locals algorithm.OfFunction initial set ls h = drop_all (length ls - 0) ls (omega arith)
no_locals algorithm.OfBlock initial set ls h = absurd cc
no_locals algorithm.OfLoop initial set ls h = absurd cc
no_locals algorithm.OfIf initial set ls h = absurd cc
no_locals algorithm.OfElse initial set ls h = absurd cc
no_locals algorithm.OfTryTable initial set ls h = absurd cc
no_locals algorithm.OfTry initial set ls h = absurd cc
no_locals algorithm.OfCatch initial set ls h = absurd cc
no_locals algorithm.OfCatchAll initial set ls h = absurd cc

function_not_if : (o : algorithm.Opened) → is_function_frame o ≡ true → is_if o ≡ false
function_not_if algorithm.OfFunction h = refl
function_not_if algorithm.OfIf h = absurd cc
function_not_if _ h = refl

pub function_ends : (v w : Validator) → is_function_frame (opened_of v.inner.opened) ≡ true → outer_of v ≡ []
    → pop_all_in (setting_of v) (inner_of v) (inner_of v).end_types (operand_stack v) ≡ Ok (operand_stack w) → length (operand_stack w) ≡ v.inner.height → ends_in v ≡ Ok (ended_of w)
function_ends v w f alone p h =
    let o = opened_of v.inner.opened in
    let closed = closes (setting_of v) (inner_of v) (stacks_of v) (operand_stack w) [] p h (sym (no_locals o (length (arguments_of v)) v.inner.locals_height (stacks_of v).initialised f)) in
    let t : Stacks KnownOperand = record { operands = operand_stack w; initialised = [] } in
    ap (λ a. a >>= λ u. function_end v u o (outer_of v)) closed
    ∙ ap (function_end v t o) alone
    ∙ ap (λ a. a >>= λ u. Ok (algorithm.given (typing_in (setting_of v)) (standard_rules (setting_of v).operands) (inner_of v).end_types u [])) (no_alternative o (setting_of v) (inner_of v) t (function_not_if o f))

pub function_refused : (v w : Validator) → pop_all_in (setting_of v) (inner_of v) (inner_of v).end_types (operand_stack v) ≡ Ok (operand_stack w) → length (operand_stack w) ≢ v.inner.height
    → ends_in v ≡ Err refused
function_refused v w p h =
    ap (λ a. a >>= λ u. function_end v u (opened_of v.inner.opened) (outer_of v)) (closes_not (setting_of v) (inner_of v) (stacks_of v) (operand_stack w) p h)

-- ---- delegate

module _ (v : Validator) (n : ℕ) where
  abbrev delegated : Checked (Stacks KnownOperand) → Bool → Checked ControlFrame → Checked BodyState
  delegated a test d = a >>= λ t. demand test >>= λ u. d >>= λ g. Ok (given_by v t)

  pub delegate_refused : is_try (opened_of v.inner.opened) ≡ false → delegates_in v n ≡ Err refused
  delegate_refused h =
      ap (λ b. delegated (pop_control_in (setting_of v) (inner_of v) (stacks_of v)) b (algorithm.labelled_frame (outer_of v) n)) h
      ∙ refuses (pop_control_in (setting_of v) (inner_of v) (stacks_of v)) (λ t. Err refused) (λ t. refl)

  at_test : (t : Stacks KnownOperand) (b : Bool) → (demand b >>= λ u. (let e : Checked ControlFrame = Err refused in e) >>= λ g. Ok (given_by v t)) ≡ Err refused
  at_test t true = refl
  at_test t false = refl

  pub delegate_nowhere : algorithm.labelled_frame (outer_of v) n ≡ Err refused → delegates_in v n ≡ Err refused
  delegate_nowhere h =
      ap (delegated (pop_control_in (setting_of v) (inner_of v) (stacks_of v)) (is_try (opened_of v.inner.opened))) h
      ∙ refuses (pop_control_in (setting_of v) (inner_of v) (stacks_of v)) (λ t. demand (is_try (opened_of v.inner.opened)) >>= λ u. Err refused) (λ t. at_test t (is_try (opened_of v.inner.opened)))

  pub delegate_given : (w : Validator) (d : ControlFrame) → is_try (opened_of v.inner.opened) ≡ true → algorithm.labelled_frame (outer_of v) n ≡ Ok d
      → pop_control_in (setting_of v) (inner_of v) (stacks_of v) ≡ Ok (stacks_of w) → w ≡ record v { operands = w.operands; set = w.set } → delegates_in v n ≡ Ok (given_in w)
  delegate_given w d h l p same =
      ap (λ b. delegated (pop_control_in (setting_of v) (inner_of v) (stacks_of v)) b (algorithm.labelled_frame (outer_of v) n)) h
      ∙ ap (delegated (pop_control_in (setting_of v) (inner_of v) (stacks_of v)) true) l
      ∙ ap (λ a. delegated a true (Ok d)) p
      ∙ ap Ok (same_given v w same)

-- ---- what the code does where it opens a construct

abbrev opening : Opened → BlockTypes → Validator → Stacks KnownOperand → BodyState
opening o types z t =
    algorithm.push_control (typing_in (setting_of z)) (standard_rules (setting_of z).operands) (opened_of o) (types_in z.context.now types.params) (types_in z.context.now types.results) t (open_frames z)

pub begin_done : (v w x : Validator) (o : Opened) (types : BlockTypes) (r : Result (Unit {0}) Fault)
    → pop_all_in (setting_of v) (inner_of v) (types_in v.context.now types.params) (operand_stack v) ≡ Ok (operand_stack w) → w ≡ record v { operands = w.operands }
    → OnOk r (OpensFrame w x o types.params types.results) → IfErr r (λ e. e ≡ fault.Memory) → ResultsIn (begin_in v o (signature_of_block v.context.now types)) r (open_state x)
begin_done v w x o types (Err fault.Memory) p same h e = tt
begin_done v w x o types (Err fault.Refused) p same h e = absurd cc
begin_done v w x o types (Ok u) p same h e =
    ap (λ a. (a >>= λ xs. Ok (with_stack v xs)) >>= λ t. Ok (opening o types v t)) p
    ∙ ap (λ (z : Validator). Ok (opening o types z (stacks_of z))) (sym same)
    ∙ ap Ok (sym h)

-- after the condition of an `if`
pub if_done : (v w : Validator) (s : BodyState) (types : BlockTypes) (r : Result (Unit {0}) Fault) → w ≡ record v { operands = w.operands }
    → ResultsIn (begin_in w opened.If (signature_of_block w.context.now types)) r s → ResultsIn (begin_from v (with_stack v (operand_stack w)) opened.If (signature_of_block v.context.now types)) r s
if_done v w s types r same h = subst (λ (z : Validator). ResultsIn (begin_from z (stacks_of z) opened.If (signature_of_block z.context.now types)) r s) same h

-- ---- what the code does where it closes a construct

none_are : (fs : List Frame) → length fs ≡ 0 → fs ≡ []
none_are [] h = refl
none_are (f ∷ fs) h = absurd (omega arith)

some_there : (c : Context) (initial : ℕ) (f : Frame) (fs : List Frame) → AreNested (control_frame c initial f ∷ frames_onto c initial fs []) → is_function_frame (opened_of f.opened) ≡ false → 0 < length fs
some_there c initial f [] n h = absurd (cc (n, h))
some_there c initial f (g ∷ fs) n h = omega arith

alone : (f : ControlFrame) (fs : List ControlFrame) → AreNested (f ∷ fs) → is_function_frame f.opened ≡ true → fs ≡ []
alone f [] n h = refl
alone f (g ∷ fs) n h = absurd (cc (n.0, h))

pub given_results : (a : Checked BodyState) (s t : BodyState) (r : Result (Unit {0}) Fault) → a ≡ Ok s → OnOk r (s ≡ t) → IfErr r (λ e. e ≡ fault.Memory) → ResultsIn a r t
given_results a s t (Err fault.Memory) h k e = tt
given_results a s t (Err fault.Refused) h k e = absurd cc
given_results a s t (Ok u) h k e = h ∙ ap Ok k

abbrev around : Validator → Stacks KnownOperand → List ControlFrame → BodyState
around z t fs = algorithm.given (typing_in (setting_of z)) (standard_rules (setting_of z).operands) (inner_of z).end_types t fs

pub give_done : (v w x : Validator) (left : Bool) (r : Result (Unit {0}) Fault) → 0 < length v.outer.items → Leaves v w left
    → OnOk r (operand_stack x ≡ push_each_in (setting_of w) (types_in w.context.now v.inner.ends) (operand_stack w)) → x ≡ record w { operands = x.operands }
    → OnOk r (given_in v ≡ open_state x)
give_done v w x left (Err e) some leaves p same = tt
give_done v w x false (Ok u) some leaves p same =
    let l = length_frames v.context.now (length (arguments_of v)) v.outer.items [] in
    let none : length (outer_of v) ≡ 0 = ap length leaves.0 in
    absurd (omega arith)
give_done v w x true (Ok u) some leaves p same =
    let fs = inner_of w ∷ outer_of w in
    let pushed : Validator → List Known = λ z. push_each_in (setting_of z) (types_in z.context.now v.inner.ends) (operand_stack z) in
    let with : Stacks KnownOperand → List Known → BodyState = λ t xs. record { stacks = record t { operands = xs }; controls = fs } in
    ap (around v (stacks_of v)) leaves.0
    ∙ ap (λ (z : Validator). with (stacks_of z) (pushed z)) (sym leaves.1)
    ∙ ap (with (stacks_of w)) (sym p)
    ∙ sym (ap open_state same)

-- ---- frames in one another

pub some_around : (v : Validator) → AreNested (open_frames v) → is_function_frame (opened_of v.inner.opened) ≡ false → 0 < length v.outer.items
some_around v n f = some_there v.context.now (length (arguments_of v)) v.inner v.outer.items n f

pub none_around : (v : Validator) → AreNested (open_frames v) → is_function_frame (opened_of v.inner.opened) ≡ true → outer_of v ≡ []
none_around v n f = alone (inner_of v) (outer_of v) n f

-- a label that is there
pub somewhere : (cs : List ControlFrame) (n : ℕ) → n < length cs → (d : ControlFrame) × (algorithm.labelled_frame cs n ≡ Ok d)
somewhere [] n h = absurd (omega arith)
somewhere (c ∷ cs) zero h = (c, refl)
somewhere (c ∷ cs) (suc n) h = somewhere cs n (omega arith)

-- an `else` opens a sequence of its own
opened_first : List ControlFrame → algorithm.Opened
opened_first [] = algorithm.OfFunction
opened_first (f ∷ fs) = f.opened

pub else_opens : (v w : Validator) → elses_in v ≡ Ok (open_state w) → algorithm.OfElse ≡ opened_of w.inner.opened
unfolding opened_first
else_opens v w h =
    let p = before (pop_control_in (setting_of v) (inner_of v) (stacks_of v)) (λ t. demand (is_if (opened_of v.inner.opened)) >>= λ u. Ok (algorithm.push_control (typing_in (setting_of v)) (standard_rules (setting_of v).operands) algorithm.OfElse (inner_of v).start_types (inner_of v).end_types t (outer_of v))) (open_state w) h in
    let q = before (demand (is_if (opened_of v.inner.opened))) (λ u. Ok (algorithm.push_control (typing_in (setting_of v)) (standard_rules (setting_of v).operands) algorithm.OfElse (inner_of v).start_types (inner_of v).end_types p.0 (outer_of v))) (open_state w) p.2 in
    let same : algorithm.push_control (typing_in (setting_of v)) (standard_rules (setting_of v).operands) algorithm.OfElse (inner_of v).start_types (inner_of v).end_types p.0 (outer_of v) ≡ open_state w = cc (q.2) in
    ap (λ (s : BodyState). opened_first s.controls) same
