-- The steps of the writer, operator by operator.
use Rattle.std.proofs.Common.{◌≡◌, ℕ, List, [], ◌∷◌, Bool, true, false, None, Result, Ok, OnOk, IfErr, refl, sym, ap, subst, ◌∙◌}
use Rattle.walrus_ir.specs.declared.val_type.InstrSeqType.TheVariants.{Simple}
use Rattle.walrus_ir.specs.Types.{Signature}
use Rattle.wasm_numbers.specs.Results.{◌>>=◌}
use Rattle.walrus_ir.specs.Locations.{default_location}
use Rattle.wasm_operators.specs.declared.types.BlockType.{BlockType}
use Rattle.wasm_operators.specs.declared.types.Space.TheVariants.{Tags}
use Rattle.wasm_operators.specs.declared.operator.Op.TheVariants as op
use Rattle.wasm_operators.specs.Meaning.{Listed, meaning}
use Rattle.wasm_operators.specs.Operations.{CatchClause, Immediate, index, outer, clauses, operation}
use Rattle.wasm_body.specs.declared.error.EmitError.{EmitError}
use Rattle.wasm_body.specs.declared.error.EmitError.TheVariants.{Memory}
use Rattle.wasm_body.specs.Control.{Block, Loop, If, Try, TryTable, catch_list, catch_opcode, delegate_operation}
use Rattle.wasm_body.specs.Frames.{outside}
use Rattle.wasm_body.specs.Naming.{naming, id_at, open_label}
use Rattle.wasm_body.specs.Translation.{translate_immediate}
use Rattle.wasm_body.proofs.Translation.Steps.{bound}
use Rattle.wasm_body.specs.Flat.{Live, Unreachable, flat_state, innermost, around}
use Rattle.walrus_from_operators.specs.OperatorKinds.{is_instruction}
use Rattle.walrus_parser.specs.OperatorKinds.{makes_unreachable}
use Rattle.walrus_parser.proofs.Roles.{fate_of_operator}
use Rattle.walrus_flat.specs.declared.writer.Writer.{Writer}
use Rattle.walrus_flat.specs.Written.{opens_of, flat_state_of, mode_of, is_unreachable_next, ends_dropped, mode_if, else_pieces, end_pieces, state_after_else, state_after_end}
use Rattle.walrus_flat.specs.Writers.{env_at, Goes, WritesUnless, OpensUnless, StepsWriter}
use Rattle.walrus_flat.proofs.WriterSteps.{immediates, control_is, steps_plain, steps_nop, steps_opener, steps_else, steps_end, steps_catch, steps_catch_all, steps_delegate}

-- the names of operators with one immediate or none
one_immediate : {E : Type 0} (r : Result (Immediate ℕ Signature) E) (is : List (Immediate ℕ Signature)) → (r >>= λ y. Ok (y ∷ [])) ≡ Ok is → (i : Immediate ℕ Signature) × (r ≡ Ok i) × (is ≡ i ∷ [])
one_immediate r is e = let b = bound r (λ y. Ok (y ∷ [])) is e in (b.0, b.1, cc b.2)

module _ (old new : Writer) (x : Listed) (location : ℕ) (r : Result (Unit {0}) EmitError) where
  abbrev Is : Listed → Type 0
  Is o = StepsWriter old new (meaning o) location r

  -- ---- openers

  abbrev Opening : BlockType → Bool → Listed → Type 0
  Opening b is_if o = OpensUnless (is_unreachable_next old.«open».next) old new (meaning o) b is_if location r → Is o

  pub at_block : (b : BlockType) → x ≡ op.Block b → Opening b false x
  at_block b is =
      subst (Opening b false) (sym is)
      (λ h type g gs text named spells n. steps_opener old new type g gs (meaning (op.Block b)) text named spells n location b [] refl Block (control_is old new type g gs (meaning (op.Block b)) text named spells n location) false refl r h)

  pub at_loop : (b : BlockType) → x ≡ op.Loop b → Opening b false x
  at_loop b is =
      subst (Opening b false) (sym is)
      (λ h type g gs text named spells n. steps_opener old new type g gs (meaning (op.Loop b)) text named spells n location b [] refl Loop (control_is old new type g gs (meaning (op.Loop b)) text named spells n location) false refl r h)

  pub at_try : (b : BlockType) → x ≡ op.Try b → Opening b false x
  at_try b is =
      subst (Opening b false) (sym is)
      (λ h type g gs text named spells n. steps_opener old new type g gs (meaning (op.Try b)) text named spells n location b [] refl Try (control_is old new type g gs (meaning (op.Try b)) text named spells n location) false refl r h)

  pub at_if : (b : BlockType) → x ≡ op.If b → Opening b true x
  at_if b is =
      subst (Opening b true) (sym is)
      (λ h type g gs text named spells n. steps_opener old new type g gs (meaning (op.If b)) text named spells n location b [] refl If (control_is old new type g gs (meaning (op.If b)) text named spells n location) true refl r h)

  pub at_try_table : (b : BlockType) (cs : List (CatchClause ℕ)) → x ≡ op.TryTable b cs → Opening b false x
  at_try_table b cs is =
      subst (Opening b false) (sym is)
      (λ h type g gs text named spells n.
      steps_opener old new type g gs (meaning (op.TryTable b cs)) text named spells n location b (clauses cs ∷ []) refl
      (TryTable (catch_list (immediates old new type g gs (meaning (op.TryTable b cs)) text named spells n location).0)) (control_is old new type g gs (meaning (op.TryTable b cs)) text named spells n location) false refl r h)

  -- ---- operators that part or close a construct

  abbrev Parting : Listed → Type 0
  Parting o =
      OnOk r (Goes old new (state_after_else (mode_of old.«open».next) (opens_of old.«open») location) (else_pieces (mode_of old.«open».next) (innermost (opens_of old.«open»)) location)) →
      IfErr r (λ e. e ≡ Memory) → Is o

  pub at_else : x ≡ op.Else → Parting x
  at_else is = subst Parting (sym is) (λ ok err type g gs text named spells n. steps_else old new type g gs (meaning op.Else) text named spells n location refl r ok err)

  abbrev Ending : Listed → Type 0
  Ending o =
      OnOk r (Goes old new (state_after_end (mode_of old.«open».next) (opens_of old.«open»)) (end_pieces (mode_of old.«open».next) (innermost (opens_of old.«open»)) location)) →
      IfErr r (λ e. e ≡ Memory) → Is o

  pub at_end : x ≡ op.End → Ending x
  at_end is = subst Ending (sym is) (λ ok err type g gs text named spells n. steps_end old new type g gs (meaning op.End) text named spells n location refl r ok err)

  abbrev Catching : Listed → Type 0
  Catching o = WritesUnless (ends_dropped (flat_state_of old.«open»)) old new (meaning o) (Simple None) location (flat_state_of old.«open») (flat_state Live (opens_of old.«open»)) r → Is o

  pub at_catch : (tag : ℕ) → x ≡ op.Catch tag → Catching x
  at_catch tag is =
      subst Catching (sym is)
      (λ h type g gs text named spells n.
      let whole = immediates old new type g gs (meaning (op.Catch tag)) text named spells n location in
      let one = one_immediate (translate_immediate (naming (env_at old type) (g ∷ gs)) (index Tags tag)) whole.0 whole.1 in
      let made = bound (id_at (env_at old type) Tags tag) (λ m. Ok (index Tags m)) one.0 one.1 in
      let tag_is : index Tags made.0 ≡ one.0 = cc made.2 in
      let catch_list : named ≡ operation catch_opcode (index Tags made.0 ∷ []) = whole.2 ∙ (ap (operation catch_opcode) one.2 ∙ ap (λ i. operation catch_opcode (i ∷ [])) (sym tag_is)) in
      steps_catch old new type g gs (meaning (op.Catch tag)) text named spells n location made.0 catch_list r h)

  pub at_catch_all : x ≡ op.CatchAll → Catching x
  at_catch_all is =
      subst Catching (sym is)
      (λ h type g gs text named spells n.
      let whole = immediates old new type g gs (meaning op.CatchAll) text named spells n location in
      let none : [] ≡ whole.0 = cc whole.1 in
      steps_catch_all old new type g gs (meaning op.CatchAll) text named spells n location (whole.2 ∙ ap (operation (meaning op.CatchAll).opcode) (sym none)) r h)

  abbrev Delegating : Listed → Type 0
  Delegating o =
      WritesUnless (ends_dropped (flat_state_of old.«open»)) old new (meaning o) (Simple None) default_location (flat_state Unreachable (around (opens_of old.«open»))) (flat_state Live (around (opens_of old.«open»))) r → Is o

  pub at_delegate : (depth : ℕ) → x ≡ op.Delegate depth → Delegating x
  at_delegate depth is =
      subst Delegating (sym is)
      (λ h type g gs text named spells n.
      let whole = immediates old new type g gs (meaning (op.Delegate depth)) text named spells n location in
      let one = one_immediate (translate_immediate (naming (env_at old type) (g ∷ gs)) (outer depth)) whole.0 whole.1 in
      let made = bound (open_label (outside (g ∷ gs)) depth) (λ m. Ok (outer m)) one.0 one.1 in
      let depth_is : outer made.0 ≡ one.0 = cc made.2 in
      let delegates : named ≡ delegate_operation made.0 = whole.2 ∙ (ap (operation (meaning (op.Delegate depth)).opcode) one.2 ∙ ap (λ i. operation (meaning (op.Delegate depth)).opcode (i ∷ [])) (sym depth_is)) in
      steps_delegate old new type g gs (meaning (op.Delegate depth)) text named spells n location made.0 delegates r h)

  -- ---- operators by themselves

  pub at_other : is_instruction x ≡ true →
      WritesUnless (is_unreachable_next old.«open».next) old new (meaning x) (Simple None) location (flat_state_of old.«open») (flat_state (mode_if (makes_unreachable x)) (opens_of old.«open»)) r → Is x
  at_other i h = λ type g gs text named spells n. steps_plain old new type g gs (meaning x) text named spells n location (makes_unreachable x) (fate_of_operator x i) r h

pub at_nop : (old : Writer) (x : Listed) (location : ℕ) → x ≡ op.Nop → StepsWriter old old (meaning x) location (Ok tt)
at_nop old x location is =
    subst (λ o. StepsWriter old old (meaning o) location (Ok tt)) (sym is)
    (λ type g gs text named spells n. steps_nop old old type g gs (meaning op.Nop) text named spells n location refl refl)
