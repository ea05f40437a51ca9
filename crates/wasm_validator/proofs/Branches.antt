-- Branches on a condition, and operators after which code can't be reached.
use Rattle.std.proofs.Common.{◌≡◌, ◌≢◌, ℕ, ◌-◌, ◌≤◌, List, [], ◌∷◌, ◌++◌, length, Result, Ok, Err, refl, sym, ap, ◌∙◌, subst, arith}
use Rattle.std.proofs.lemmas.List.{take-append-drop, length-drop, reverse-append}
use Rattle.std.specs.Result.{result_ok}
use Rattle.wasm_types.specs.declared.val_type.RefType.{RefType}
use Rattle.wasm_types.specs.declared.val_type.ValType.{ValType}
use Rattle.wasm_types.specs.declared.val_type.ValType.TheVariants as value
use Rattle.wasm_types.specs.declared.val_type.ValType.TheVariants.{I32, Ref}
use Rattle.wasm_operators.specs.declared.types.Opcode.TheVariants.{Byte, Prefixed}
use Rattle.wasm_operators.specs.Operations.{Cast, operation, label, cast}
use Rattle.wasm_numbers.specs.Results.{◌>>=◌}
use Rattle.wasm_body.specs.Control.{Does, ConditionalBranch, control_of}
use Rattle.wasm_body.specs.Naming.{NamedOperation}
use Rattle.wasm_body.specs.Validity as algorithm
use Rattle.wasm_body.specs.Validity.{ControlFrame, Stacks, Point, Change, Checked, refused, required, demand, above, up_to, set_locals}
use Rattle.wasm_body.specs.ValidityLaws.{KnownOperand}
use Rattle.wasm_typing.specs.Operands.{InstructionType, ◌⟶◌, pop_operands, typed}
use Rattle.wasm_typing.specs.RuleLaws.{stacks}
use Rattle.wasm_typing.specs.StandardRules.{standard_rules, conditional_change, LabelParts, label_parts, reference_type, is_cast}
use Rattle.wasm_typing.specs.Contexts.{OperandContext}
use Rattle.wasm_typing.specs.Matching.{matches_reference, difference}
use Rattle.wasm_typing.specs.Rules.{ref_null}
use Rattle.wasm_context.specs.Validation.{BodyContext, BodyState, typing_in}
use Rattle.wasm_validator.specs.declared.fault.Fault.{Fault}
use Rattle.wasm_validator.specs.declared.state.Validator.{Validator}
use Rattle.wasm_validator.specs.States.{Known}
use Rattle.wasm_validator.specs.Steps.{ResultsIn, setting_of, operand_stack, stacks_of, inner_of, open_state, labelled, pop_in, pop_all_in, push_each_in, typed_in, ReachesHeight}
use Rattle.wasm_validator.specs.Core.{step_of, open_frames, with_operand_stack, BranchRule, conditional_in, if_rule, non_null_rule, reference_rule, last_and_before}
use Rattle.wasm_validator.proofs.TypedPoints.{typed_point, pops_all, up_to_height}
use Rattle.wasm_validator.proofs.StepResults.{nested, mapped}
use Rattle.wasm_validator.proofs.Lists.{length_onto}
use Rattle.wasm_validator.proofs.WellFormed.{before}

-- ---- the last type first

pub last_first : (b : BodyContext) (f : ControlFrame) (ts : List (ValType ℕ)) (t : ValType ℕ) (xs : List Known) → pop_all_in b f (ts ++ t ∷ []) xs ≡ (pop_in b f t xs >>= pop_all_in b f ts)
last_first b f ts t xs = ap (λ l. algorithm.pop_each (typing_in b) (standard_rules b.operands) f l xs) (reverse-append ts (t ∷ []))

pub push_after : (b : BodyContext) (ts us : List (ValType ℕ)) (xs : List Known) → push_each_in b (ts ++ us) xs ≡ push_each_in b us (push_each_in b ts xs)
push_after b [] us xs = refl
push_after b (t ∷ ts) us xs = push_after b ts us (algorithm.Known _ ∷ xs)

-- ---- a stack in two last_and_before

pub ends_low : (h : ℕ) (low : List Known) (a : Checked (List Known)) (ys : List Known) → h ≡ length low → (a >>= λ zs. Ok (zs ++ low)) ≡ Ok ys → up_to h ys ≡ low
ends_low h low (Ok zs) ys e is = let same : zs ++ low ≡ ys = cc in ap (up_to h) (sym same) ∙ up_to_height h zs low e
ends_low h low (Err f) ys e is = absurd cc

module _ (v : Validator) (reach : ReachesHeight v) where
  abbrev pub high : List Known
  high = above v.inner.height (operand_stack v)

  abbrev pub low : List Known
  low = up_to v.inner.height (operand_stack v)

  pub whole : high ++ low ≡ operand_stack v
  whole = take-append-drop (length (operand_stack v) - v.inner.height) (operand_stack v)

  pub long : v.inner.height ≡ length low
  long =
      let l = length_onto v.operands.items [] in
      let d = length-drop (length (operand_stack v) - v.inner.height) (operand_stack v) in
      let r : v.inner.height ≤ length v.operands.items = reach in
      omega arith

  -- what a rule makes of the operands, by a type
  pub by_type : (t : InstructionType)
      → (required (result_ok (typed (setting_of v).operands t (algorithm.point (typing_in (setting_of v)) (standard_rules (setting_of v).operands) (inner_of v) (stacks_of v))))
      >>= λ k. Ok (algorithm.changed (typing_in (setting_of v)) (standard_rules (setting_of v).operands) (inner_of v) k (stacks_of v)))
      ≡ (typed_in (setting_of v) (inner_of v) t.takes t.gives (operand_stack v) >>= λ xs. Ok (stacks xs (set_locals t.initialises (stacks_of v).initialised)))
  by_type t =
      let b = setting_of v in
      let m = typing_in b in
      let r = standard_rules b.operands in
      let f = inner_of v in
      let ls = (stacks_of v).initialised in
      ap (λ xs. required (result_ok (typed b.operands t (algorithm.point m r f (stacks xs ls)))) >>= λ k. Ok (algorithm.changed m r f k (stacks xs ls))) (sym whole)
      ∙ typed_point m b.operands t f high low ls long
      ∙ ap (λ xs. pop_all_in b f t.takes xs >>= λ zs. Ok (stacks (push_each_in b t.gives zs) (set_locals t.initialises ls))) whole
      ∙ sym (nested (pop_all_in b f t.takes (operand_stack v)) (λ zs. Ok (push_each_in b t.gives zs)) (λ xs. Ok (stacks xs (set_locals t.initialises ls))))

  -- operands that are popped leave those below the height
  pub low_stays : (ts : List (ValType ℕ)) (ys : List Known) → pop_all_in (setting_of v) (inner_of v) ts (operand_stack v) ≡ Ok ys → up_to v.inner.height ys ≡ low
  low_stays ts ys h =
      let b = setting_of v in
      let f = inner_of v in
      let last_and_before : (pop_operands b.operands f.unreachable ts high >>= λ zs. Ok (zs ++ low)) ≡ Ok ys =
      sym (pops_all (typing_in b) b.operands f ts high low long) ∙ ap (pop_all_in b f ts) whole ∙ h in
      ends_low v.inner.height low (pop_operands b.operands f.unreachable ts high) ys long last_and_before

-- ---- branches on a condition

-- The rule of the operator is this, whatever the operands are, and no local is set.
abbrev pub HasBranchRule : BodyContext → NamedOperation → ℕ → BranchRule → Type 0
HasBranchRule b o n rule =
    (control_of o ≡ Does (ConditionalBranch n))
    × ((ts : List (ValType ℕ)) (p : Point KnownOperand) → conditional_change b.operands o ts p ≡ (rule ts >>= λ t. typed b.operands t p))
    × ((ts : List (ValType ℕ)) (t : InstructionType) → rule ts ≡ Ok t → t.initialises ≡ [])

module _ (v : Validator) (reach : ReachesHeight v) (o : NamedOperation) (n : ℕ) (rule : BranchRule) (has : HasBranchRule (setting_of v) o n rule) where
  abbrev point : Point KnownOperand
  point = algorithm.point (typing_in (setting_of v)) (standard_rules (setting_of v).operands) (inner_of v) (stacks_of v)

  abbrev change : Change KnownOperand → Checked (Stacks KnownOperand)
  change k = Ok (algorithm.changed (typing_in (setting_of v)) (standard_rules (setting_of v).operands) (inner_of v) k (stacks_of v))

  abbrev after : Stacks KnownOperand → Checked BodyState
  after s = Ok (algorithm.state s (open_frames v))

  abbrev typed_then : InstructionType → Checked BodyState
  typed_then t = typed_in (setting_of v) (inner_of v) t.takes t.gives (operand_stack v) >>= λ xs. Ok (with_operand_stack v xs)

  by_rule : (ts : List (ValType ℕ)) (a : Checked InstructionType) → rule ts ≡ a
      → ((required (result_ok (a >>= λ t. typed (setting_of v).operands t point)) >>= change) >>= after) ≡ (a >>= typed_then)
  by_rule ts (Err refused) h = refl
  by_rule ts (Ok t) h =
      let ls = (stacks_of v).initialised in
      ap (λ a. a >>= after) (by_type v reach t)
      ∙ nested (typed_in (setting_of v) (inner_of v) t.takes t.gives (operand_stack v)) (λ xs. Ok (stacks xs (set_locals t.initialises ls))) after
      ∙ ap (λ ns. typed_in (setting_of v) (inner_of v) t.takes t.gives (operand_stack v) >>= λ xs. after (stacks xs (set_locals ns ls))) (has.2 ts t h)

  by_label : (a : Checked ControlFrame)
      → ((a >>= λ d. required (result_ok (conditional_change (setting_of v).operands o (algorithm.label_types d) point)) >>= change) >>= after)
      ≡ (a >>= λ d. rule (algorithm.label_types d) >>= typed_then)
  by_label (Err e) = refl
  by_label (Ok d) =
      let ts = algorithm.label_types d in
      ap (λ a. (required (result_ok a) >>= change) >>= after) (has.1 ts point)
      ∙ by_rule ts (rule ts) refl

  pub conditional_is : step_of v o ≡ conditional_in v n rule
  conditional_is =
      ap (λ k. algorithm.step_in (typing_in (setting_of v)) (standard_rules (setting_of v).operands) k o (stacks_of v) (open_frames v)) has.0
      ∙ by_label (labelled v n)

-- ---- what the code does

-- a branch whose label and rule are these
pub conditional_done : (v w : Validator) (n : ℕ) (rule : BranchRule) (d : ControlFrame) (ts us ws : List (ValType ℕ)) (r : Result (Unit {0}) Fault)
    → labelled v n ≡ Ok d → algorithm.label_types d ≡ ts → rule ts ≡ Ok (us ⟶ ws)
    → ResultsIn (typed_in (setting_of v) (inner_of v) us ws (operand_stack v)) r (operand_stack w) → w ≡ record v { operands = w.operands }
    → ResultsIn (conditional_in v n rule) r (open_state w)
conditional_done v w n rule d ts us ws r at types is h same =
    let done = λ (t : InstructionType). typed_in (setting_of v) (inner_of v) t.takes t.gives (operand_stack v) >>= λ xs. Ok (with_operand_stack v xs) in
    let e : conditional_in v n rule ≡ (typed_in (setting_of v) (inner_of v) us ws (operand_stack v) >>= λ xs. Ok (with_operand_stack v xs)) =
    ap (λ a. a >>= λ f. rule (algorithm.label_types f) >>= done) at ∙ ap (λ l. rule l >>= done) types ∙ ap (λ a. a >>= done) is in
    let shown : open_state w ≡ with_operand_stack v (operand_stack w) = ap open_state same in
    subst (λ a. ResultsIn a r (open_state w)) (sym e)
    (subst (ResultsIn (typed_in (setting_of v) (inner_of v) us ws (operand_stack v) >>= λ xs. Ok (with_operand_stack v xs)) r) (sym shown)
    (mapped (typed_in (setting_of v) (inner_of v) us ws (operand_stack v)) (with_operand_stack v) r (operand_stack w) h))

-- ---- rules of branches

if_type : (ts : List (ValType ℕ)) (t : InstructionType) → if_rule ts ≡ Ok t → t.initialises ≡ []
if_type ts t h = let same : (ts ++ I32 ∷ [] ⟶ ts) ≡ t = cc in ap (λ (u : InstructionType). u.initialises) (sym same)

pub if_has : (b : BodyContext) (n : ℕ) → HasBranchRule b (operation (Byte 0x0d) (label n ∷ [])) n if_rule
if_has b n = (refl, λ ts p. refl, if_type)

non_null_type : (ts : List (ValType ℕ)) (t : InstructionType) → non_null_rule ts ≡ Ok t → t.initialises ≡ []
non_null_type ts t h =
    let p = before (label_parts ts) (λ l. Ok (l.before ++ ref_null l.last.heap_type ∷ [] ⟶ l.before)) t h in
    let same : (p.0.before ++ ref_null p.0.last.heap_type ∷ [] ⟶ p.0.before) ≡ t = cc (p.2) in
    ap (λ (u : InstructionType). u.initialises) (sym same)

pub non_null_has : (b : BodyContext) (n : ℕ) → HasBranchRule b (operation (Byte 0xd6) (label n ∷ [])) n non_null_rule
non_null_has b n =
    (refl, (λ ts p. sym (nested (label_parts ts) (λ l. Ok (l.before ++ ref_null l.last.heap_type ∷ [] ⟶ l.before)) (λ t. typed b.operands t p))), non_null_type)

after_test : {Y : Type 0} (d : Checked (Unit {0})) (x : InstructionType) (k : InstructionType → Checked Y) → (d >>= λ w. k x) ≡ ((d >>= λ w. Ok x) >>= k)
after_test (Ok u) x k = refl
after_test (Err e) x k = refl

after_parts : {Y : Type 0} (a : Checked (Unit {0})) (l : Checked LabelParts) (d : LabelParts → Checked (Unit {0})) (g : LabelParts → InstructionType) (k : InstructionType → Checked Y)
    → (a >>= λ u. l >>= λ x. d x >>= λ w. k (g x)) ≡ ((a >>= λ u. l >>= λ x. d x >>= λ w. Ok (g x)) >>= k)
after_parts (Err e) l d g k = refl
after_parts (Ok u) (Err e) d g k = refl
after_parts (Ok u) (Ok x) d g k = after_test (d x) (g x) k

module _ (c : OperandContext) (from to branches stays : RefType ℕ) where
  abbrev reference_types : LabelParts → InstructionType
  reference_types l = l.before ++ Ref from ∷ [] ⟶ l.before ++ Ref stays ∷ []

  pub reference_type_of : (ts : List (ValType ℕ)) (t : InstructionType) → reference_rule c from to branches stays ts ≡ Ok t → t.initialises ≡ []
  reference_type_of ts t h =
      let p = before (is_cast c from to) (λ u. label_parts ts >>= λ l. demand (matches_reference c branches l.last) >>= λ w. Ok (reference_types l)) t h in
      let q = before (label_parts ts) (λ l. demand (matches_reference c branches l.last) >>= λ w. Ok (reference_types l)) t p.2 in
      let z = before (demand (matches_reference c branches q.0.last)) (λ w. Ok (reference_types q.0)) t q.2 in
      let same : reference_types q.0 ≡ t = cc (z.2) in
      ap (λ (u : InstructionType). u.initialises) (sym same)

pub cast_has : (b : BodyContext) (k : Cast ℕ)
    → HasBranchRule b (operation (Prefixed 0xfb 24) (cast k ∷ [])) k.label
    (reference_rule b.operands (reference_type k.from_nullable k.source) (reference_type k.to_nullable k.target) (reference_type k.to_nullable k.target)
    (difference (reference_type k.from_nullable k.source) (reference_type k.to_nullable k.target)))
cast_has b k =
    let from = reference_type k.from_nullable k.source in
    let to = reference_type k.to_nullable k.target in (
      refl,
      (λ ts p. after_parts (is_cast b.operands from to) (label_parts ts) (λ l. demand (matches_reference b.operands to l.last)) (reference_types b.operands from to to (difference from to)) (λ t. typed b.operands t p)),
      reference_type_of b.operands from to to (difference from to),
    )

pub cast_fail_has : (b : BodyContext) (k : Cast ℕ)
    → HasBranchRule b (operation (Prefixed 0xfb 25) (cast k ∷ [])) k.label
    (reference_rule b.operands (reference_type k.from_nullable k.source) (reference_type k.to_nullable k.target)
    (difference (reference_type k.from_nullable k.source) (reference_type k.to_nullable k.target)) (reference_type k.to_nullable k.target))
cast_fail_has b k =
    let from = reference_type k.from_nullable k.source in
    let to = reference_type k.to_nullable k.target in (
      refl,
      (λ ts p. after_parts (is_cast b.operands from to) (label_parts ts) (λ l. demand (matches_reference b.operands (difference from to) l.last)) (reference_types b.operands from to (difference from to) to) (λ t. typed b.operands t p)),
      reference_type_of b.operands from to (difference from to) to,
    )

-- ---- the last type of a label

abbrev with_before : ValType ℕ → Checked LabelParts → Checked LabelParts
with_before t a = a >>= λ l. Ok (last_and_before (t ∷ l.before) l.last)

more_parts : (t u : ValType ℕ) (us : List (ValType ℕ)) → label_parts (t ∷ u ∷ us) ≡ with_before t (label_parts (u ∷ us))
more_parts value.I32 u us = refl
more_parts value.I64 u us = refl
more_parts value.F32 u us = refl
more_parts value.F64 u us = refl
more_parts value.V128 u us = refl
more_parts (value.Ref r) u us = refl

pub parts_of_last : (ts : List (ValType ℕ)) (r : RefType ℕ) → label_parts (ts ++ Ref r ∷ []) ≡ Ok (last_and_before ts r)
parts_of_last [] r = refl
parts_of_last (t ∷ []) r = more_parts t (Ref r) []
parts_of_last (t ∷ u ∷ ts) r = more_parts t u (ts ++ Ref r ∷ []) ∙ ap (with_before t) (parts_of_last (u ∷ ts) r)

pub parts_of_none : (ts : List (ValType ℕ)) (t : ValType ℕ) → label_parts (t ∷ []) ≡ Err refused → label_parts (ts ++ t ∷ []) ≡ Err refused
parts_of_none [] t h = h
parts_of_none (u ∷ []) t h = more_parts u t [] ∙ ap (with_before u) h
parts_of_none (u ∷ w ∷ ts) t h = more_parts u w (ts ++ t ∷ []) ∙ ap (with_before u) (parts_of_none (w ∷ ts) t h)

pub parts_without : (types before : List (ValType ℕ)) (t : ValType ℕ) → types ≡ before ++ t ∷ [] → label_parts (t ∷ []) ≡ Err refused → label_parts types ≡ Err refused
parts_without types before t is h = ap label_parts is ∙ parts_of_none before t h

pub not_a_reference : (t : ValType ℕ) → ((r : RefType ℕ) → t ≢ Ref r) → label_parts (t ∷ []) ≡ Err refused
not_a_reference value.I32 h = refl
not_a_reference value.I64 h = refl
not_a_reference value.F32 h = refl
not_a_reference value.F64 h = refl
not_a_reference value.V128 h = refl
not_a_reference (value.Ref r) h = absurd (h r refl)
