-- The meanings of the code's controls: the same, with lists for slices.
use Rattle.std.specs.Prelude.{map}
use Rattle.walrus_machine.specs.declared.named_op.NamedCatch.{NamedCatch}
use Rattle.walrus_machine.specs.declared.machine.control.Action.{Action}
use Rattle.walrus_machine.specs.declared.machine.control.Construct.{Construct}
use Rattle.walrus_machine.specs.declared.machine.control.Control.{Control}
use Rattle.walrus_machine.specs.declared.machine.operator.Role.{Role}
use Rattle.wasm_body.specs.Control as C

abbrev pub role_meaning : Role → C.Role
role_meaning Role.Unreachable = C.an_unreachable
role_meaning Role.Nop = C.a_nop
role_meaning Role.Block = C.a_block
role_meaning Role.Loop = C.a_loop
role_meaning Role.If = C.an_if
role_meaning Role.Else = C.an_else
role_meaning Role.Try = C.a_try
role_meaning Role.Catch = C.a_catch
role_meaning Role.Throw = C.a_throw
role_meaning Role.Rethrow = C.a_rethrow
role_meaning Role.ThrowRef = C.a_throw_ref
role_meaning Role.End = C.an_end
role_meaning Role.Branch = C.a_branch
role_meaning Role.ConditionalBranch = C.a_conditional_branch
role_meaning Role.TableBranch = C.a_table_branch
role_meaning Role.Return = C.a_return
role_meaning Role.TailCall = C.a_tail_call
role_meaning Role.Delegate = C.a_delegate
role_meaning Role.CatchAll = C.a_catch_all
role_meaning Role.TryTable = C.a_try_table
role_meaning Role.Plain = C.a_plain

abbrev pub clause_meaning : NamedCatch → C.Clause
clause_meaning c = record { tag = c.tag; label = c.label }

abbrev pub action_meaning : Action → C.Action
action_meaning Action.Nop = C.Nop
action_meaning Action.Plain = C.Plain
action_meaning (Action.Branch n) = C.Branch n
action_meaning (Action.ConditionalBranch n) = C.ConditionalBranch n
action_meaning (Action.TableBranch targets default) = C.TableBranch targets.now default
action_meaning Action.Return = C.Return
action_meaning Action.Unreachable = C.Unreachable
action_meaning (Action.Throw tag) = C.Throw tag
action_meaning Action.ThrowRef = C.ThrowRef
action_meaning (Action.Rethrow n) = C.Rethrow n
action_meaning Action.TailCall = C.TailCall

abbrev pub construct_meaning : Construct → C.Construct
construct_meaning Construct.Block = C.Block
construct_meaning Construct.Loop = C.Loop
construct_meaning Construct.If = C.If
construct_meaning Construct.Try = C.Try
construct_meaning (Construct.TryTable cs) = C.TryTable (map clause_meaning cs.now)

abbrev pub control_meaning : Control → C.Control
control_meaning (Control.Does a) = C.Does (action_meaning a)
control_meaning (Control.Opens c) = C.Opens (construct_meaning c)
control_meaning Control.Else = C.Else
control_meaning (Control.Catch tag) = C.Catch tag
control_meaning Control.CatchAll = C.CatchAll
control_meaning Control.End = C.End
control_meaning (Control.Delegate n) = C.Delegate n
