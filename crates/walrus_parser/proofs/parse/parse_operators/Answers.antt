use Rattle.std.proofs.Common.{◌≡◌, ◌<◌, ◌≤◌, ◌+◌, ◌++◌, ◌-◌, length, [], ◌∷◌, refl, rules, inl, inr, sym, ap, subst, ◌∙◌, Ok, Err}
use Rattle.std.proofs.lemmas.Result.{IfOk-at_ok, IfErr-at_err}
use Rattle.wasm_numbers.specs.declared.fault.ReadError.{ReadError}
use Rattle.wasm_operators.specs.Spelling.{read_operation}
use Rattle.wasm_encode.specs.Writable.{IsWritable}
use Rattle.wasm_operators.specs.declared.operator.Op.TheVariants.{End}
use Rattle.wasm_operators.specs.Meaning.{meaning}
use Rattle.wasm_body.specs.declared.error.ParseError.TheVariants.{Read, Trailing, MissingEnd}
use Rattle.wasm_body.specs.declared.error.ParseFailure.{ParseFailure}
use Rattle.wasm_body.specs.Control.{end_operation}
use Rattle.wasm_body.specs.NormalForm.{typing_of, normal_form, named_body}
use Rattle.wasm_body.specs.Parsing.Lists.{failure}
use Rattle.wasm_body.specs.TreeOfFunction.{HasTree}
use Rattle.wasm_body.specs.Parsing.Accepted.{mark, has_location, admitted}
use Rattle.wasm_body.specs.Parsing.Progress.{Within, further}
use Rattle.walrus_parser.specs.Advancing.{Keeps, KeepsProgress, occurrence}
use Rattle.walrus_parser.specs.BodyParsers.{state_of}
use Rattle.walrus_parser.specs.Bodies.{operators_input, HoldsBody}
use Rattle.walrus_context.specs.OpenTrees.{env_of}
use Rattle.walrus_validators.specs.Checking.{fault_of_refusal}
use Rattle.walrus_validators.specs.Locating.{MayCall, Locates}
use Rattle.walrus_parser.specs.NextOperator.{TakesNext, ParsesAtOnce}
use Rattle.wasm_ops.specs.CommonOperators.{common_listed}
use Rattle.wasm_ops.specs.Position.{Position, IsAfter}
use Rattle.std.specs.Prelude.{IfOk, IfErr}
use Rattle.walrus_validators.proofs.Taking.{is_not_read}
use Rattle.wasm_body.specs.Naming.{Environment}
use Rattle.walrus_parser.proofs.SingleInstructions.{no_layers}
use Rattle.walrus_parser.proofs.Bodies.{begins_parse, still, takes, continues, unread, breaks, ends_early, over_next, over_end, body_at, goes_past, is_whole, whole_mapping, may_call_here}
use Rattle.walrus_parser.proofs.NextSequences.{some_open}
use Rattle.walrus_parser.proofs.parse.parse_operators.Goals as goal

pub loop-reader-init : goal.loop-reader-init
loop-reader-init g c =
    let a = c.args in
    let i = operators_input (env_of a.parser.context) a.reader.now a.code_offset a.on_instr_pos g.V.OpCheck.check (g.V.OpCheck.state a.validator) in
    begins_parse g.F.Fn i a.parser c.list_with_room-instruction_mapping.result.items refl c.requires.fresh c.list_with_room-instruction_mapping.ensures

pub accepted_at-requires-clause-may_call : goal.accepted_at-requires-clause-may_call
accepted_at-requires-clause-may_call g c =
    let a = c.args in
    let i = operators_input (env_of a.parser.context) a.reader.now a.code_offset a.on_instr_pos g.V.OpCheck.check (g.V.OpCheck.state a.validator) in
    let not = subst (λ k. ParsesAtOnce g.F.Fn a.on_instr_pos g.V.OpCheck.check (g.V.OpCheck.state c.loop-reader.validator) (g.V.OpCheck.state c.parse_at_once.new.validator) c.original_position-at.result a.code_offset c.loop-reader.reader c.parse_at_once.new.reader c.loop-reader.parser c.parse_at_once.new.parser c.loop-reader.instruction_mapping.items c.parse_at_once.new.mapping.items (Ok k)) c.in-Ok-Left.field-0-is c.in-Ok-Left.ensures in
    let so = still g.F.Fn i c.loop-reader.parser c.parse_at_once.new.parser (g.V.OpCheck.state c.loop-reader.validator) (g.V.OpCheck.state c.parse_at_once.new.validator) c.loop-reader.reader.place c.loop-reader.reader.rest c.loop-reader.instruction_mapping.items c.parse_at_once.new.mapping.items not.1 not.2 not.3 c.loop-reader.invariant in
    let now = c.loop-reader.reader in
    let some : 0 < length now.rest = search rules in
    subst (λ p. MayCall (λ f x. g.F.Fn.pre f (x, tt)) a.on_instr_pos p (p + 1)) (sym c.original_position-at.ensures)
    (may_call_here g.F.Fn i (λ f x. g.F.Fn.pre f (x, tt)) c.parse_at_once.new.parser (g.V.OpCheck.state c.parse_at_once.new.validator) now.place now.rest c.parse_at_once.new.mapping.items so some c.requires.may_call)

pub accepted_at-requires-clause-asked : goal.accepted_at-requires-clause-asked
accepted_at-requires-clause-asked g c =
    let a = c.args in
    let not = subst (λ k. ParsesAtOnce g.F.Fn a.on_instr_pos g.V.OpCheck.check (g.V.OpCheck.state c.loop-reader.validator) (g.V.OpCheck.state c.parse_at_once.new.validator) c.original_position-at.result a.code_offset c.loop-reader.reader c.parse_at_once.new.reader c.loop-reader.parser c.parse_at_once.new.parser c.loop-reader.instruction_mapping.items c.parse_at_once.new.mapping.items (Ok k)) c.in-Ok-Left.field-0-is c.in-Ok-Left.ensures in
    not.4

pub returns-in-Err-read : goal.returns-in-Err-read
returns-in-Err-read g c =
    let a = c.args in
    let i = operators_input (env_of a.parser.context) a.reader.now a.code_offset a.on_instr_pos g.V.OpCheck.check (g.V.OpCheck.state a.validator) in
    let not = subst (λ k. ParsesAtOnce g.F.Fn a.on_instr_pos g.V.OpCheck.check (g.V.OpCheck.state c.loop-reader.validator) (g.V.OpCheck.state c.parse_at_once.new.validator) c.original_position-at.result a.code_offset c.loop-reader.reader c.parse_at_once.new.reader c.loop-reader.parser c.parse_at_once.new.parser c.loop-reader.instruction_mapping.items c.parse_at_once.new.mapping.items (Ok k)) c.in-Ok-Left.field-0-is c.in-Ok-Left.ensures in
    let so = still g.F.Fn i c.loop-reader.parser c.parse_at_once.new.parser (g.V.OpCheck.state c.loop-reader.validator) (g.V.OpCheck.state c.parse_at_once.new.validator) c.loop-reader.reader.place c.loop-reader.reader.rest c.loop-reader.instruction_mapping.items c.parse_at_once.new.mapping.items not.1 not.2 not.3 c.loop-reader.invariant in
    let now = c.loop-reader.reader in
    let some : 0 < length now.rest = search rules in
    let state = g.V.OpCheck.state c.parse_at_once.new.validator in
    let e = c.in-Err-read.error in
    let known : (read_operation now.rest ≡ Err e.fault) × (e.at ≡ now.place) = IfErr-at_err (λ (e : ReadError). (read_operation now.rest ≡ Err e.fault) × (e.at ≡ now.place)) c.in-Err-read.is (subst (λ (r : Position). IfErr c.read_other-read.result (λ (e : ReadError). (read_operation r.rest ≡ Err e.fault) × (e.at ≡ r.place))) not.0 c.read_other-read.ensures.err) in
    inr (unread g.F.Fn i c.requires.offset c.parse_at_once.new.parser state now.place now.rest c.parse_at_once.new.mapping.items (Read e) c.unread.result so some
    (is_not_read (has_location a.on_instr_pos) g.V.OpCheck.check state now.place now.rest e.fault known.0 ∙ ap (λ p. Err (Read (record { fault = e.fault; at = p }))) (sym known.1))
    (c.unread.ensures ∙ ap (failure (Read e)) c.original_position-at.ensures))

pub returns-in-Err-accepted_at : goal.returns-in-Err-accepted_at
returns-in-Err-accepted_at g c =
    let a = c.args in
    let i = operators_input (env_of a.parser.context) a.reader.now a.code_offset a.on_instr_pos g.V.OpCheck.check (g.V.OpCheck.state a.validator) in
    let not = subst (λ k. ParsesAtOnce g.F.Fn a.on_instr_pos g.V.OpCheck.check (g.V.OpCheck.state c.loop-reader.validator) (g.V.OpCheck.state c.parse_at_once.new.validator) c.original_position-at.result a.code_offset c.loop-reader.reader c.parse_at_once.new.reader c.loop-reader.parser c.parse_at_once.new.parser c.loop-reader.instruction_mapping.items c.parse_at_once.new.mapping.items (Ok k)) c.in-Ok-Left.field-0-is c.in-Ok-Left.ensures in
    let so = still g.F.Fn i c.loop-reader.parser c.parse_at_once.new.parser (g.V.OpCheck.state c.loop-reader.validator) (g.V.OpCheck.state c.parse_at_once.new.validator) c.loop-reader.reader.place c.loop-reader.reader.rest c.loop-reader.instruction_mapping.items c.parse_at_once.new.mapping.items not.1 not.2 not.3 c.loop-reader.invariant in
    let now = c.loop-reader.reader in
    let next = c.read_other-read.new.reader in
    let some : 0 < length now.rest = search rules in
    let state = g.V.OpCheck.state c.parse_at_once.new.validator in
    let e = fault_of_refusal c.in-Err-accepted_at.refusal in
    let is_refused = c.refused.ensures in
    let op = c.in-Ok.operator in
    let at_is = c.original_position-at.ensures in
    let is_read : read_operation now.rest ≡ Ok (meaning op, next.rest) = IfOk-at_ok (λ x. read_operation now.rest ≡ Ok (meaning x, next.rest)) c.in-Ok.is (subst (λ (r : Position). IfOk c.read_other-read.result (λ x. read_operation r.rest ≡ Ok (meaning x, c.read_other-read.new.reader.rest))) not.0 c.read_other-read.ensures.is_read) in
    elim c.in-Err-accepted_at.ensures.err [
      | inl is ↦ inl (ap (λ (h : ParseFailure). h.error) is_refused ∙ is)
      | inr is ↦ inr (unread g.F.Fn i c.requires.offset c.parse_at_once.new.parser state now.place now.rest c.parse_at_once.new.mapping.items e c.refused.result so some
          (subst (λ p. admitted (has_location a.on_instr_pos) g.V.OpCheck.check state p now.rest ≡ Err e) at_is (is now.rest next.rest is_read))
          (is_refused ∙ ap (failure e) at_is))
    ]

pub returns : goal.returns
returns g c =
    let a = c.args in
    let i = operators_input (env_of a.parser.context) a.reader.now a.code_offset a.on_instr_pos g.V.OpCheck.check (g.V.OpCheck.state a.validator) in
    let now = c.loop-reader.reader in
    let none : length now.rest ≡ 0 = search rules in
    inr (ends_early g.F.Fn i c.requires.offset c.loop-reader.parser (g.V.OpCheck.state c.loop-reader.validator) now.place now.rest c.loop-reader.instruction_mapping.items c.failure-2.result c.loop-reader.invariant none
    (c.failure-2.ensures ∙ ap (failure MissingEnd) c.original_position.ensures))

pub returns-in-Err-check_ended : goal.returns-in-Err-check_ended
returns-in-Err-check_ended g c =
    let a = c.args in
    let i = operators_input (env_of a.parser.context) a.reader.now a.code_offset a.on_instr_pos g.V.OpCheck.check (g.V.OpCheck.state a.validator) in
    let not = subst (λ k. ParsesAtOnce g.F.Fn a.on_instr_pos g.V.OpCheck.check (g.V.OpCheck.state c.loop-reader.validator) (g.V.OpCheck.state c.parse_at_once.new.validator) c.original_position-at.result a.code_offset c.loop-reader.reader c.parse_at_once.new.reader c.loop-reader.parser c.parse_at_once.new.parser c.loop-reader.instruction_mapping.items c.parse_at_once.new.mapping.items (Ok k)) c.in-Ok-Left.field-0-is c.in-Ok-Left.ensures in
    let so = still g.F.Fn i c.loop-reader.parser c.parse_at_once.new.parser (g.V.OpCheck.state c.loop-reader.validator) (g.V.OpCheck.state c.parse_at_once.new.validator) c.loop-reader.reader.place c.loop-reader.reader.rest c.loop-reader.instruction_mapping.items c.parse_at_once.new.mapping.items not.1 not.2 not.3 c.loop-reader.invariant in
    let now = c.loop-reader.reader in
    let next = c.read_other-read.new.reader in
    let p = c.parse_at_once.new.parser in
    let f = so in
    let state = g.V.OpCheck.state c.parse_at_once.new.validator in
    let then = g.V.OpCheck.state c.accepted_at.new.validator in
    let m = c.parse_at_once.new.mapping.items in
    let op = c.in-Ok.operator in
    let at_is = c.original_position-at.ensures in
    let is_read : read_operation now.rest ≡ Ok (meaning op, next.rest) = IfOk-at_ok (λ x. read_operation now.rest ≡ Ok (meaning x, next.rest)) c.in-Ok.is (subst (λ (r : Position). IfOk c.read_other-read.result (λ x. read_operation r.rest ≡ Ok (meaning x, c.read_other-read.new.reader.rest))) not.0 c.read_other-read.ensures.is_read) in
    let Moves : Type 0 = (next.place + length next.rest ≡ now.place + length now.rest) × (length next.rest < length now.rest) in
    let moves : Moves = IfOk-at_ok (λ _. Moves) c.in-Ok.is (subst (λ (r : Position). IfOk c.read_other-read.result (λ _. IsAfter r c.read_other-read.new.reader)) not.0 c.read_other-read.ensures.moves) in
    let reads : admitted (has_location a.on_instr_pos) g.V.OpCheck.check state now.place now.rest ≡ Ok (record { spelt = meaning op; rest = next.rest; state = then }) =
    subst (λ p. admitted (has_location a.on_instr_pos) g.V.OpCheck.check state p now.rest ≡ Ok (record { spelt = meaning op; rest = next.rest; state = then })) at_is (c.in-Ok-accepted_at.ensures.ok now.rest next.rest is_read) in
    let located : Locates g.F.Fn a.on_instr_pos now.place c.in-Ok-accepted_at.location = subst (λ p. Locates g.F.Fn a.on_instr_pos p c.in-Ok-accepted_at.location) at_is c.in-Ok-accepted_at.ensures.located in
    let is : c.in-Ok.operator ≡ End = search rules in
    let alone : length p.context.frames ≤ 1 = search rules in
    let past = c.in-Err-check_ended.ensures.err in
    let top = no_layers p f.layers f.sequence f.keeps alone in
    let take : admitted (has_location a.on_instr_pos) g.V.OpCheck.check state now.place now.rest ≡ Ok (record { spelt = end_operation; rest = next.rest; state = then }) =
    reads ∙ ap (λ o. Ok (record { spelt = meaning o; rest = next.rest; state = then })) is in
    let pushed : c.try_push.new.list.items ≡ m ++ (now.place - a.code_offset, c.in-Ok-accepted_at.location) ∷ [] =
    c.try_push.ensures.done c.if-not-try_push.false ∙ ap (λ at. m ++ (at - a.code_offset, c.in-Ok-accepted_at.location) ∷ []) c.original_position-at.ensures in
    let whole = over_end g.F.Fn i c.requires.offset p state then now.place next.place now.rest next.rest m c.try_push.new.list.items c.in-Ok-accepted_at.location f top take located moves.0 moves.1 pushed in
    inr (goes_past g.F.Fn i c.requires.offset _ then next.place next.rest c.try_push.new.list.items c.in-Err-check_ended.failure whole past.0 past.1)

pub loop-reader-smaller : goal.loop-reader-smaller
loop-reader-smaller g c =
    let a = c.args in
    let i = operators_input (env_of a.parser.context) a.reader.now a.code_offset a.on_instr_pos g.V.OpCheck.check (g.V.OpCheck.state a.validator) in
    let not = subst (λ k. ParsesAtOnce g.F.Fn a.on_instr_pos g.V.OpCheck.check (g.V.OpCheck.state c.loop-reader.validator) (g.V.OpCheck.state c.parse_at_once.new.validator) c.original_position-at.result a.code_offset c.loop-reader.reader c.parse_at_once.new.reader c.loop-reader.parser c.parse_at_once.new.parser c.loop-reader.instruction_mapping.items c.parse_at_once.new.mapping.items (Ok k)) c.in-Ok-Left.field-0-is c.in-Ok-Left.ensures in
    let now = c.loop-reader.reader in
    let next = c.read_other-read.new.reader in
    let Moves : Type 0 = (next.place + length next.rest ≡ now.place + length now.rest) × (length next.rest < length now.rest) in
    let moves : Moves = IfOk-at_ok (λ _. Moves) c.in-Ok.is (subst (λ (r : Position). IfOk c.read_other-read.result (λ _. IsAfter r c.read_other-read.new.reader)) not.0 c.read_other-read.ensures.moves) in
    moves.1

pub step-requires-clause-writable : goal.step-requires-clause-writable
step-requires-clause-writable g c = IfOk-at_ok (λ x. IsWritable (meaning x)) c.in-Ok.is c.read_other-read.ensures.writable

pub loop-reader-preserved : goal.loop-reader-preserved
loop-reader-preserved g c =
    let a = c.args in
    let i = operators_input (env_of a.parser.context) a.reader.now a.code_offset a.on_instr_pos g.V.OpCheck.check (g.V.OpCheck.state a.validator) in
    let not = subst (λ k. ParsesAtOnce g.F.Fn a.on_instr_pos g.V.OpCheck.check (g.V.OpCheck.state c.loop-reader.validator) (g.V.OpCheck.state c.parse_at_once.new.validator) c.original_position-at.result a.code_offset c.loop-reader.reader c.parse_at_once.new.reader c.loop-reader.parser c.parse_at_once.new.parser c.loop-reader.instruction_mapping.items c.parse_at_once.new.mapping.items (Ok k)) c.in-Ok-Left.field-0-is c.in-Ok-Left.ensures in
    let so = still g.F.Fn i c.loop-reader.parser c.parse_at_once.new.parser (g.V.OpCheck.state c.loop-reader.validator) (g.V.OpCheck.state c.parse_at_once.new.validator) c.loop-reader.reader.place c.loop-reader.reader.rest c.loop-reader.instruction_mapping.items c.parse_at_once.new.mapping.items not.1 not.2 not.3 c.loop-reader.invariant in
    let now = c.loop-reader.reader in
    let next = c.read_other-read.new.reader in
    let p = c.parse_at_once.new.parser in
    let q = c.step.new.self in
    let f = so in
    let state = g.V.OpCheck.state c.parse_at_once.new.validator in
    let then = g.V.OpCheck.state c.accepted_at.new.validator in
    let m = c.parse_at_once.new.mapping.items in
    let op = c.in-Ok.operator in
    let at_is = c.original_position-at.ensures in
    let is_read : read_operation now.rest ≡ Ok (meaning op, next.rest) = IfOk-at_ok (λ x. read_operation now.rest ≡ Ok (meaning x, next.rest)) c.in-Ok.is (subst (λ (r : Position). IfOk c.read_other-read.result (λ x. read_operation r.rest ≡ Ok (meaning x, c.read_other-read.new.reader.rest))) not.0 c.read_other-read.ensures.is_read) in
    let Moves : Type 0 = (next.place + length next.rest ≡ now.place + length now.rest) × (length next.rest < length now.rest) in
    let moves : Moves = IfOk-at_ok (λ _. Moves) c.in-Ok.is (subst (λ (r : Position). IfOk c.read_other-read.result (λ _. IsAfter r c.read_other-read.new.reader)) not.0 c.read_other-read.ensures.moves) in
    let taking : admitted (has_location a.on_instr_pos) g.V.OpCheck.check state now.place now.rest ≡ Ok (record { spelt = meaning op; rest = next.rest; state = then }) =
    subst (λ p. admitted (has_location a.on_instr_pos) g.V.OpCheck.check state p now.rest ≡ Ok (record { spelt = meaning op; rest = next.rest; state = then })) at_is (c.in-Ok-accepted_at.ensures.ok now.rest next.rest is_read) in
    let located : Locates g.F.Fn a.on_instr_pos now.place c.in-Ok-accepted_at.location = subst (λ p. Locates g.F.Fn a.on_instr_pos p c.in-Ok-accepted_at.location) at_is c.in-Ok-accepted_at.ensures.located in
    let o = meaning op in
    let pushed : c.try_push.new.list.items ≡ m ++ (now.place - a.code_offset, c.in-Ok-accepted_at.location) ∷ [] =
    c.try_push.ensures.done c.if-not-try_push.false ∙ ap (λ at. m ++ (at - a.code_offset, c.in-Ok-accepted_at.location) ∷ []) c.original_position-at.ensures in
    let advances = c.in-Ok-step.ensures.step f.layers f.sequence now.place f.keeps in
    let same = c.in-Ok-step.ensures.rest in
    let reads = over_next g.F.Fn i c.requires.offset p state then now.place next.place now.rest next.rest m c.try_push.new.list.items o c.in-Ok-accepted_at.location advances.named f taking located advances.is_named
    moves.0 moves.1 pushed in
    let more = further (Within f.layers f.sequence) (mark (occurrence o now.place c.in-Ok-accepted_at.location advances.named)) in
    continues g.F.Fn i q more then next.place next.rest c.try_push.new.list.items (same.env ∙ f.env_is) (same.entry ∙ f.entry) (subst (λ e. KeepsProgress e (state_of q) more) (sym same.env) advances.keeps) reads

pub returns-in-Err-step : goal.returns-in-Err-step
returns-in-Err-step g c =
    let a = c.args in
    let i = operators_input (env_of a.parser.context) a.reader.now a.code_offset a.on_instr_pos g.V.OpCheck.check (g.V.OpCheck.state a.validator) in
    let not = subst (λ k. ParsesAtOnce g.F.Fn a.on_instr_pos g.V.OpCheck.check (g.V.OpCheck.state c.loop-reader.validator) (g.V.OpCheck.state c.parse_at_once.new.validator) c.original_position-at.result a.code_offset c.loop-reader.reader c.parse_at_once.new.reader c.loop-reader.parser c.parse_at_once.new.parser c.loop-reader.instruction_mapping.items c.parse_at_once.new.mapping.items (Ok k)) c.in-Ok-Left.field-0-is c.in-Ok-Left.ensures in
    let so = still g.F.Fn i c.loop-reader.parser c.parse_at_once.new.parser (g.V.OpCheck.state c.loop-reader.validator) (g.V.OpCheck.state c.parse_at_once.new.validator) c.loop-reader.reader.place c.loop-reader.reader.rest c.loop-reader.instruction_mapping.items c.parse_at_once.new.mapping.items not.1 not.2 not.3 c.loop-reader.invariant in
    let now = c.loop-reader.reader in
    let next = c.read_other-read.new.reader in
    let p = c.parse_at_once.new.parser in
    let state = g.V.OpCheck.state c.parse_at_once.new.validator in
    let then = g.V.OpCheck.state c.accepted_at.new.validator in
    let op = c.in-Ok.operator in
    let at_is = c.original_position-at.ensures in
    let is_read : read_operation now.rest ≡ Ok (meaning op, next.rest) = IfOk-at_ok (λ x. read_operation now.rest ≡ Ok (meaning x, next.rest)) c.in-Ok.is (subst (λ (r : Position). IfOk c.read_other-read.result (λ x. read_operation r.rest ≡ Ok (meaning x, c.read_other-read.new.reader.rest))) not.0 c.read_other-read.ensures.is_read) in
    let reads : admitted (has_location a.on_instr_pos) g.V.OpCheck.check state now.place now.rest ≡ Ok (record { spelt = meaning op; rest = next.rest; state = then }) =
    subst (λ p. admitted (has_location a.on_instr_pos) g.V.OpCheck.check state p now.rest ≡ Ok (record { spelt = meaning op; rest = next.rest; state = then })) at_is (c.in-Ok-accepted_at.ensures.ok now.rest next.rest is_read) in
    let f = so in
    let some : 0 < length now.rest = search rules in
    let o = meaning op in
    let e = c.in-Err-step.error in
    let is = c.failure-in-Err-step.ensures in
    elim (c.in-Err-step.ensures.step f.layers f.sequence now.place f.keeps) [
      | inl out_of_memory ↦ inl (ap (λ (h : ParseFailure). h.error) is ∙ out_of_memory)
      | inr refused ↦ inr (breaks g.F.Fn i c.requires.offset p (g.V.OpCheck.state c.parse_at_once.new.validator) (g.V.OpCheck.state c.accepted_at.new.validator) now.place now.rest next.rest c.parse_at_once.new.mapping.items o e
          c.failure-in-Err-step.result f some reads refused (is ∙ ap (failure e) c.original_position-at.ensures))
    ]

pub returns-in-Ok-finish : goal.returns-in-Ok-finish
returns-in-Ok-finish g c =
    let a = c.args in
    let i = operators_input (env_of a.parser.context) a.reader.now a.code_offset a.on_instr_pos g.V.OpCheck.check (g.V.OpCheck.state a.validator) in
    let not = subst (λ k. ParsesAtOnce g.F.Fn a.on_instr_pos g.V.OpCheck.check (g.V.OpCheck.state c.loop-reader.validator) (g.V.OpCheck.state c.parse_at_once.new.validator) c.original_position-at.result a.code_offset c.loop-reader.reader c.parse_at_once.new.reader c.loop-reader.parser c.parse_at_once.new.parser c.loop-reader.instruction_mapping.items c.parse_at_once.new.mapping.items (Ok k)) c.in-Ok-Left.field-0-is c.in-Ok-Left.ensures in
    let so = still g.F.Fn i c.loop-reader.parser c.parse_at_once.new.parser (g.V.OpCheck.state c.loop-reader.validator) (g.V.OpCheck.state c.parse_at_once.new.validator) c.loop-reader.reader.place c.loop-reader.reader.rest c.loop-reader.instruction_mapping.items c.parse_at_once.new.mapping.items not.1 not.2 not.3 c.loop-reader.invariant in
    let now = c.loop-reader.reader in
    let next = c.read_other-read.new.reader in
    let p = c.parse_at_once.new.parser in
    let f = so in
    let state = g.V.OpCheck.state c.parse_at_once.new.validator in
    let then = g.V.OpCheck.state c.accepted_at.new.validator in
    let m = c.parse_at_once.new.mapping.items in
    let op = c.in-Ok.operator in
    let at_is = c.original_position-at.ensures in
    let is_read : read_operation now.rest ≡ Ok (meaning op, next.rest) = IfOk-at_ok (λ x. read_operation now.rest ≡ Ok (meaning x, next.rest)) c.in-Ok.is (subst (λ (r : Position). IfOk c.read_other-read.result (λ x. read_operation r.rest ≡ Ok (meaning x, c.read_other-read.new.reader.rest))) not.0 c.read_other-read.ensures.is_read) in
    let Moves : Type 0 = (next.place + length next.rest ≡ now.place + length now.rest) × (length next.rest < length now.rest) in
    let moves : Moves = IfOk-at_ok (λ _. Moves) c.in-Ok.is (subst (λ (r : Position). IfOk c.read_other-read.result (λ _. IsAfter r c.read_other-read.new.reader)) not.0 c.read_other-read.ensures.moves) in
    let reads : admitted (has_location a.on_instr_pos) g.V.OpCheck.check state now.place now.rest ≡ Ok (record { spelt = meaning op; rest = next.rest; state = then }) =
    subst (λ p. admitted (has_location a.on_instr_pos) g.V.OpCheck.check state p now.rest ≡ Ok (record { spelt = meaning op; rest = next.rest; state = then })) at_is (c.in-Ok-accepted_at.ensures.ok now.rest next.rest is_read) in
    let located : Locates g.F.Fn a.on_instr_pos now.place c.in-Ok-accepted_at.location = subst (λ p. Locates g.F.Fn a.on_instr_pos p c.in-Ok-accepted_at.location) at_is c.in-Ok-accepted_at.ensures.located in
    let is : c.in-Ok.operator ≡ End = search rules in
    let alone : length p.context.frames ≤ 1 = search rules in
    let last = c.in-Ok-check_ended.ensures.ok in
    let top = no_layers p f.layers f.sequence f.keeps alone in
    let take : admitted (has_location a.on_instr_pos) g.V.OpCheck.check state now.place now.rest ≡ Ok (record { spelt = end_operation; rest = next.rest; state = then }) =
    reads ∙ ap (λ o. Ok (record { spelt = meaning o; rest = next.rest; state = then })) is in
    let pushed : c.try_push.new.list.items ≡ m ++ (now.place - a.code_offset, c.in-Ok-accepted_at.location) ∷ [] =
    c.try_push.ensures.done c.if-not-try_push.false ∙ ap (λ at. m ++ (at - a.code_offset, c.in-Ok-accepted_at.location) ∷ []) c.original_position-at.ensures in
    let whole = over_end g.F.Fn i c.requires.offset p state then now.place next.place now.rest next.rest m c.try_push.new.list.items c.in-Ok-accepted_at.location f top take located moves.0 moves.1 pushed in
    let b = body_at f.sequence now.place c.in-Ok-accepted_at.location in
    let done = c.in-Ok-finish.ensures.ok in
    let holds : HoldsBody g.F.Fn i (record { builder = c.in-Ok-finish.builder; instruction_mapping = c.try_push.new.list }) = record {
      body = b;
      is_parsed = is_whole g.F.Fn i c.requires.offset b then next.place next.rest c.try_push.new.list.items whole last;
      type = done.type ∙ ap (λ (e : Environment). e.type) f.env_is;
      is_function = record {
        entry = done.entry ∙ f.entry;
        holds = subst (λ e. HasTree c.in-Ok-finish.builder.sequences 0 (normal_form (typing_of e) (named_body b))) f.env_is
            (done.holds f.sequence b.close refl (subst (λ ls. Keeps (env_of p.context) (state_of p) ls f.sequence) top f.keeps));
      };
      is_mapping = whole_mapping g.F.Fn i c.requires.offset b then next.place next.rest c.try_push.new.list.items whole;
    } in
    subst (HoldsBody g.F.Fn i) (sym c.new.ensures) holds

pub returns-in-Err-finish : goal.returns-in-Err-finish
returns-in-Err-finish g c =
    let a = c.args in
    let i = operators_input (env_of a.parser.context) a.reader.now a.code_offset a.on_instr_pos g.V.OpCheck.check (g.V.OpCheck.state a.validator) in
    let not = subst (λ k. ParsesAtOnce g.F.Fn a.on_instr_pos g.V.OpCheck.check (g.V.OpCheck.state c.loop-reader.validator) (g.V.OpCheck.state c.parse_at_once.new.validator) c.original_position-at.result a.code_offset c.loop-reader.reader c.parse_at_once.new.reader c.loop-reader.parser c.parse_at_once.new.parser c.loop-reader.instruction_mapping.items c.parse_at_once.new.mapping.items (Ok k)) c.in-Ok-Left.field-0-is c.in-Ok-Left.ensures in
    let so = still g.F.Fn i c.loop-reader.parser c.parse_at_once.new.parser (g.V.OpCheck.state c.loop-reader.validator) (g.V.OpCheck.state c.parse_at_once.new.validator) c.loop-reader.reader.place c.loop-reader.reader.rest c.loop-reader.instruction_mapping.items c.parse_at_once.new.mapping.items not.1 not.2 not.3 c.loop-reader.invariant in
    let f = so in
    let p = c.parse_at_once.new.parser in
    elim c.in-Err-finish.ensures.err [
      | inl is ↦ inl (ap (λ (h : ParseFailure). h.error) c.failure-in-Err-finish.ensures ∙ is)
      | inr is ↦ absurd (some_open (env_of p.context) (state_of p) f.layers f.sequence f.keeps is.1)
    ]

pub parse_at_once-requires-clause-may_call : goal.parse_at_once-requires-clause-may_call
parse_at_once-requires-clause-may_call g c =
    let a = c.args in
    let i = operators_input (env_of a.parser.context) a.reader.now a.code_offset a.on_instr_pos g.V.OpCheck.check (g.V.OpCheck.state a.validator) in
    let now = c.loop-reader.reader in
    let some : 0 < length now.rest = search rules in
    subst (λ p. MayCall (λ f x. g.F.Fn.pre f (x, tt)) a.on_instr_pos p (p + 1)) (sym c.original_position-at.ensures)
    (may_call_here g.F.Fn i (λ f x. g.F.Fn.pre f (x, tt)) c.loop-reader.parser (g.V.OpCheck.state c.loop-reader.validator) now.place now.rest c.loop-reader.instruction_mapping.items c.loop-reader.invariant some c.requires.may_call)

pub loop-reader-smaller-in-Ok-Taken : goal.loop-reader-smaller-in-Ok-Taken
loop-reader-smaller-in-Ok-Taken g c =
    let a = c.args in
    let t = subst (λ k. ParsesAtOnce g.F.Fn a.on_instr_pos g.V.OpCheck.check (g.V.OpCheck.state c.loop-reader.validator) (g.V.OpCheck.state c.parse_at_once.new.validator) c.original_position-at.result a.code_offset c.loop-reader.reader c.parse_at_once.new.reader c.loop-reader.parser c.parse_at_once.new.parser c.loop-reader.instruction_mapping.items c.parse_at_once.new.mapping.items (Ok k)) c.in-Ok-Taken.field-0-is c.in-Ok-Taken.ensures in
    t.2.1

pub loop-reader-preserved-in-Ok-Taken : goal.loop-reader-preserved-in-Ok-Taken
loop-reader-preserved-in-Ok-Taken g c =
    let a = c.args in
    let i = operators_input (env_of a.parser.context) a.reader.now a.code_offset a.on_instr_pos g.V.OpCheck.check (g.V.OpCheck.state a.validator) in
    let now = c.loop-reader.reader in
    let next = c.parse_at_once.new.reader in
    let state = g.V.OpCheck.state c.loop-reader.validator in
    let then = g.V.OpCheck.state c.parse_at_once.new.validator in
    let m = c.loop-reader.instruction_mapping.items in
    let following = c.parse_at_once.new.mapping.items in
    let t = subst (λ k. ParsesAtOnce g.F.Fn a.on_instr_pos g.V.OpCheck.check (g.V.OpCheck.state c.loop-reader.validator) (g.V.OpCheck.state c.parse_at_once.new.validator) c.original_position-at.result a.code_offset c.loop-reader.reader c.parse_at_once.new.reader c.loop-reader.parser c.parse_at_once.new.parser c.loop-reader.instruction_mapping.items c.parse_at_once.new.mapping.items (Ok k)) c.in-Ok-Taken.field-0-is c.in-Ok-Taken.ensures in
    let o = meaning (common_listed t.0) in
    takes g.F.Fn i c.requires.offset c.loop-reader.parser c.parse_at_once.new.parser state then now.place next.place now.rest next.rest m following o c.loop-reader.invariant t.1 t.2.0 t.2.1
    (subst (λ p. TakesNext g.F.Fn a.on_instr_pos g.V.OpCheck.check state then p a.code_offset o c.loop-reader.parser c.parse_at_once.new.parser m following) c.original_position-at.ensures t.3)

pub returns-in-Err : goal.returns-in-Err
returns-in-Err g c =
    let a = c.args in
    let i = operators_input (env_of a.parser.context) a.reader.now a.code_offset a.on_instr_pos g.V.OpCheck.check (g.V.OpCheck.state a.validator) in
    let now = c.loop-reader.reader in
    let some : 0 < length now.rest = search rules in
    let e = c.in-Err.failure in
    let state = g.V.OpCheck.state c.loop-reader.validator in
    elim c.in-Err.ensures.1 [
      | inl memory ↦ inl memory
      | inr (x, after, read, admits) ↦ inr (unread g.F.Fn i c.requires.offset c.loop-reader.parser state now.place now.rest c.loop-reader.instruction_mapping.items e.error e c.loop-reader.invariant some
          (subst (λ p. admitted (has_location a.on_instr_pos) g.V.OpCheck.check state p now.rest ≡ Err e.error) c.original_position-at.ensures (admits now.rest after read))
          (ap (failure e.error) (c.in-Err.ensures.0 ∙ c.original_position-at.ensures)))
    ]
