-- The operators that most code consists of, as operators.
use Rattle.wasm_operators.specs.declared.operator.Op.TheVariants as operator
use Rattle.wasm_operators.specs.Meaning.{Listed}
use Rattle.wasm_ops.specs.declared.common.CommonOperator.{CommonOperator}
use Rattle.wasm_ops.specs.declared.common.CommonOperator.TheVariants as common

abbrev pub common_listed : CommonOperator → Listed
common_listed (common.LocalGet n) = operator.LocalGet n
common_listed (common.LocalSet n) = operator.LocalSet n
common_listed (common.LocalTee n) = operator.LocalTee n
common_listed (common.I32Const n) = operator.I32Const n
common_listed (common.I64Const n) = operator.I64Const n
common_listed (common.Unop op) = operator.Unop op
common_listed (common.Binop op) = operator.Binop op
common_listed (common.Load kind memarg) = operator.Load kind memarg
common_listed (common.Store kind memarg) = operator.Store kind memarg
common_listed (common.Call func) = operator.Call func
common_listed (common.GlobalGet global) = operator.GlobalGet global
common_listed (common.GlobalSet global) = operator.GlobalSet global
common_listed (common.Br depth) = operator.Br depth
common_listed (common.BrIf depth) = operator.BrIf depth
common_listed common.Drop = operator.Drop
