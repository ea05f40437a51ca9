use Rattle.wasm_operators.specs.declared.reference_operator.ReferenceOp.TheVariants as reference
use Rattle.wasm_operators.specs.ReferenceOperations.{reference_operation}
use Rattle.wasm_validator.specs.Steps.{open_state}
use Rattle.wasm_validator.proofs.ControlSteps.{cast_is, cast_fail_is, non_null_is}
use Rattle.wasm_validator.proofs.NullBranches.{null_branch_is}
use Rattle.wasm_validator.proofs.PlainSteps.{any_convert_extern_step, array_copy_step, array_fill_step, array_get_s_step, array_get_step, array_get_u_step, array_init_data_step, array_init_elem_step, array_len_step, array_new_data_step, array_new_default_step, array_new_elem_step, array_new_fixed_step, array_new_step, array_set_step, extern_convert_any_step, i31_get_s_step, i31_get_u_step, ref_as_non_null_step, ref_cast_step, ref_eq_step, ref_func_step, ref_i31_step, ref_is_null_step, ref_null_step, ref_test_step, struct_get_s_step, struct_get_step, struct_get_u_step, struct_new_default_step, struct_new_step, struct_set_step}
use Rattle.wasm_validator.proofs.Stepping.{by_equation}
use Rattle.wasm_validator.proofs.state.Validator.step_reference.Goals as goal

pub returns-in-RefNull-clause-goes_on : goal.returns-in-RefNull-clause-goes_on
returns-in-RefNull-clause-goes_on c =
    let v = c.args.self.now in
    by_equation reference_operation v c.null_reference.new.self c.args.op (reference.RefNull c.in-RefNull.heap_type) c.null_reference.result c.in-RefNull.is (open_state c.null_reference.new.self) _ (ref_null_step v c.requires c.in-RefNull.heap_type) c.null_reference.ensures.plain

pub returns-in-RefIsNull-clause-goes_on : goal.returns-in-RefIsNull-clause-goes_on
returns-in-RefIsNull-clause-goes_on c =
    let v = c.args.self.now in
    by_equation reference_operation v c.is_null.new.self c.args.op reference.RefIsNull c.is_null.result c.in-RefIsNull.is (open_state c.is_null.new.self) _ (ref_is_null_step v c.requires) c.is_null.ensures.plain

pub returns-in-RefFunc-clause-goes_on : goal.returns-in-RefFunc-clause-goes_on
returns-in-RefFunc-clause-goes_on c =
    let v = c.args.self.now in
    by_equation reference_operation v c.function_reference.new.self c.args.op (reference.RefFunc c.in-RefFunc.func) c.function_reference.result c.in-RefFunc.is (open_state c.function_reference.new.self) _ (ref_func_step v c.requires c.in-RefFunc.func) c.function_reference.ensures.plain

pub returns-in-RefEq-clause-goes_on : goal.returns-in-RefEq-clause-goes_on
returns-in-RefEq-clause-goes_on c =
    let v = c.args.self.now in
    by_equation reference_operation v c.reference_equality.new.self c.args.op reference.RefEq c.reference_equality.result c.in-RefEq.is (open_state c.reference_equality.new.self) _ (ref_eq_step v c.requires) c.reference_equality.ensures.plain

pub returns-in-RefAsNonNull-clause-goes_on : goal.returns-in-RefAsNonNull-clause-goes_on
returns-in-RefAsNonNull-clause-goes_on c =
    let v = c.args.self.now in
    by_equation reference_operation v c.as_non_null.new.self c.args.op reference.RefAsNonNull c.as_non_null.result c.in-RefAsNonNull.is (open_state c.as_non_null.new.self) _ (ref_as_non_null_step v c.requires) c.as_non_null.ensures.plain

pub returns-in-BrOnNull-clause-goes_on : goal.returns-in-BrOnNull-clause-goes_on
returns-in-BrOnNull-clause-goes_on c =
    let v = c.args.self.now in
    by_equation reference_operation v c.branch_on_null.new.self c.args.op (reference.BrOnNull c.in-BrOnNull.label) c.branch_on_null.result c.in-BrOnNull.is (open_state c.branch_on_null.new.self) _ (null_branch_is v c.requires c.in-BrOnNull.label) c.branch_on_null.ensures.branches

pub returns-in-BrOnNonNull-clause-goes_on : goal.returns-in-BrOnNonNull-clause-goes_on
returns-in-BrOnNonNull-clause-goes_on c =
    let v = c.args.self.now in
    by_equation reference_operation v c.branch_on_non_null.new.self c.args.op (reference.BrOnNonNull c.in-BrOnNonNull.label) c.branch_on_non_null.result c.in-BrOnNonNull.is (open_state c.branch_on_non_null.new.self) _ (non_null_is v c.in-BrOnNonNull.label c.requires) c.branch_on_non_null.ensures.branches

pub returns-in-StructNew-clause-goes_on : goal.returns-in-StructNew-clause-goes_on
returns-in-StructNew-clause-goes_on c =
    let v = c.args.self.now in
    by_equation reference_operation v c.struct_new.new.self c.args.op (reference.StructNew c.in-StructNew.ty) c.struct_new.result c.in-StructNew.is (open_state c.struct_new.new.self) _ (struct_new_step v c.requires c.in-StructNew.ty) c.struct_new.ensures.plain

pub returns-in-StructNewDefault-clause-goes_on : goal.returns-in-StructNewDefault-clause-goes_on
returns-in-StructNewDefault-clause-goes_on c =
    let v = c.args.self.now in
    by_equation reference_operation v c.struct_new_default.new.self c.args.op (reference.StructNewDefault c.in-StructNewDefault.ty) c.struct_new_default.result c.in-StructNewDefault.is (open_state c.struct_new_default.new.self) _ (struct_new_default_step v c.requires c.in-StructNewDefault.ty) c.struct_new_default.ensures.plain

pub returns-in-StructGet-clause-goes_on : goal.returns-in-StructGet-clause-goes_on
returns-in-StructGet-clause-goes_on c =
    let v = c.args.self.now in
    by_equation reference_operation v c.struct_get.new.self c.args.op (reference.StructGet c.in-StructGet.ty c.in-StructGet.field) c.struct_get.result c.in-StructGet.is (open_state c.struct_get.new.self) _ (struct_get_step v c.requires c.in-StructGet.ty c.in-StructGet.field) c.struct_get.ensures.plain

pub returns-in-StructGetS-clause-goes_on : goal.returns-in-StructGetS-clause-goes_on
returns-in-StructGetS-clause-goes_on c =
    let v = c.args.self.now in
    by_equation reference_operation v c.struct_get-in-StructGetS.new.self c.args.op (reference.StructGetS c.in-StructGetS.ty c.in-StructGetS.field) c.struct_get-in-StructGetS.result c.in-StructGetS.is (open_state c.struct_get-in-StructGetS.new.self) _ (struct_get_s_step v c.requires c.in-StructGetS.ty c.in-StructGetS.field) c.struct_get-in-StructGetS.ensures.plain

pub returns-in-StructGetU-clause-goes_on : goal.returns-in-StructGetU-clause-goes_on
returns-in-StructGetU-clause-goes_on c =
    let v = c.args.self.now in
    by_equation reference_operation v c.struct_get-in-StructGetU.new.self c.args.op (reference.StructGetU c.in-StructGetU.ty c.in-StructGetU.field) c.struct_get-in-StructGetU.result c.in-StructGetU.is (open_state c.struct_get-in-StructGetU.new.self) _ (struct_get_u_step v c.requires c.in-StructGetU.ty c.in-StructGetU.field) c.struct_get-in-StructGetU.ensures.plain

pub returns-in-StructSet-clause-goes_on : goal.returns-in-StructSet-clause-goes_on
returns-in-StructSet-clause-goes_on c =
    let v = c.args.self.now in
    by_equation reference_operation v c.struct_set.new.self c.args.op (reference.StructSet c.in-StructSet.ty c.in-StructSet.field) c.struct_set.result c.in-StructSet.is (open_state c.struct_set.new.self) _ (struct_set_step v c.requires c.in-StructSet.ty c.in-StructSet.field) c.struct_set.ensures.plain

pub returns-in-ArrayNew-clause-goes_on : goal.returns-in-ArrayNew-clause-goes_on
returns-in-ArrayNew-clause-goes_on c =
    let v = c.args.self.now in
    by_equation reference_operation v c.array_new.new.self c.args.op (reference.ArrayNew c.in-ArrayNew.ty) c.array_new.result c.in-ArrayNew.is (open_state c.array_new.new.self) _ (array_new_step v c.requires c.in-ArrayNew.ty) c.array_new.ensures.plain

pub returns-in-ArrayNewDefault-clause-goes_on : goal.returns-in-ArrayNewDefault-clause-goes_on
returns-in-ArrayNewDefault-clause-goes_on c =
    let v = c.args.self.now in
    by_equation reference_operation v c.array_new_default.new.self c.args.op (reference.ArrayNewDefault c.in-ArrayNewDefault.ty) c.array_new_default.result c.in-ArrayNewDefault.is (open_state c.array_new_default.new.self) _ (array_new_default_step v c.requires c.in-ArrayNewDefault.ty) c.array_new_default.ensures.plain

pub returns-in-ArrayNewFixed-clause-goes_on : goal.returns-in-ArrayNewFixed-clause-goes_on
returns-in-ArrayNewFixed-clause-goes_on c =
    let v = c.args.self.now in
    by_equation reference_operation v c.array_new_fixed.new.self c.args.op (reference.ArrayNewFixed c.in-ArrayNewFixed.ty c.in-ArrayNewFixed.len) c.array_new_fixed.result c.in-ArrayNewFixed.is (open_state c.array_new_fixed.new.self) _ (array_new_fixed_step v c.requires c.in-ArrayNewFixed.ty c.in-ArrayNewFixed.len) c.array_new_fixed.ensures.plain

pub returns-in-ArrayNewData-clause-goes_on : goal.returns-in-ArrayNewData-clause-goes_on
returns-in-ArrayNewData-clause-goes_on c =
    let v = c.args.self.now in
    by_equation reference_operation v c.array_new_data.new.self c.args.op (reference.ArrayNewData c.in-ArrayNewData.ty c.in-ArrayNewData.data) c.array_new_data.result c.in-ArrayNewData.is (open_state c.array_new_data.new.self) _ (array_new_data_step v c.requires c.in-ArrayNewData.ty c.in-ArrayNewData.data) c.array_new_data.ensures.plain

pub returns-in-ArrayNewElem-clause-goes_on : goal.returns-in-ArrayNewElem-clause-goes_on
returns-in-ArrayNewElem-clause-goes_on c =
    let v = c.args.self.now in
    by_equation reference_operation v c.array_new_elem.new.self c.args.op (reference.ArrayNewElem c.in-ArrayNewElem.ty c.in-ArrayNewElem.element) c.array_new_elem.result c.in-ArrayNewElem.is (open_state c.array_new_elem.new.self) _ (array_new_elem_step v c.requires c.in-ArrayNewElem.ty c.in-ArrayNewElem.element) c.array_new_elem.ensures.plain

pub returns-in-ArrayGet-clause-goes_on : goal.returns-in-ArrayGet-clause-goes_on
returns-in-ArrayGet-clause-goes_on c =
    let v = c.args.self.now in
    by_equation reference_operation v c.array_get.new.self c.args.op (reference.ArrayGet c.in-ArrayGet.ty) c.array_get.result c.in-ArrayGet.is (open_state c.array_get.new.self) _ (array_get_step v c.requires c.in-ArrayGet.ty) c.array_get.ensures.plain

pub returns-in-ArrayGetS-clause-goes_on : goal.returns-in-ArrayGetS-clause-goes_on
returns-in-ArrayGetS-clause-goes_on c =
    let v = c.args.self.now in
    by_equation reference_operation v c.array_get-in-ArrayGetS.new.self c.args.op (reference.ArrayGetS c.in-ArrayGetS.ty) c.array_get-in-ArrayGetS.result c.in-ArrayGetS.is (open_state c.array_get-in-ArrayGetS.new.self) _ (array_get_s_step v c.requires c.in-ArrayGetS.ty) c.array_get-in-ArrayGetS.ensures.plain

pub returns-in-ArrayGetU-clause-goes_on : goal.returns-in-ArrayGetU-clause-goes_on
returns-in-ArrayGetU-clause-goes_on c =
    let v = c.args.self.now in
    by_equation reference_operation v c.array_get-in-ArrayGetU.new.self c.args.op (reference.ArrayGetU c.in-ArrayGetU.ty) c.array_get-in-ArrayGetU.result c.in-ArrayGetU.is (open_state c.array_get-in-ArrayGetU.new.self) _ (array_get_u_step v c.requires c.in-ArrayGetU.ty) c.array_get-in-ArrayGetU.ensures.plain

pub returns-in-ArraySet-clause-goes_on : goal.returns-in-ArraySet-clause-goes_on
returns-in-ArraySet-clause-goes_on c =
    let v = c.args.self.now in
    by_equation reference_operation v c.array_set.new.self c.args.op (reference.ArraySet c.in-ArraySet.ty) c.array_set.result c.in-ArraySet.is (open_state c.array_set.new.self) _ (array_set_step v c.requires c.in-ArraySet.ty) c.array_set.ensures.plain

pub returns-in-ArrayLen-clause-goes_on : goal.returns-in-ArrayLen-clause-goes_on
returns-in-ArrayLen-clause-goes_on c =
    let v = c.args.self.now in
    by_equation reference_operation v c.array_length.new.self c.args.op reference.ArrayLen c.array_length.result c.in-ArrayLen.is (open_state c.array_length.new.self) _ (array_len_step v c.requires) c.array_length.ensures.plain

pub returns-in-ArrayFill-clause-goes_on : goal.returns-in-ArrayFill-clause-goes_on
returns-in-ArrayFill-clause-goes_on c =
    let v = c.args.self.now in
    by_equation reference_operation v c.array_fill.new.self c.args.op (reference.ArrayFill c.in-ArrayFill.ty) c.array_fill.result c.in-ArrayFill.is (open_state c.array_fill.new.self) _ (array_fill_step v c.requires c.in-ArrayFill.ty) c.array_fill.ensures.plain

pub returns-in-ArrayCopy-clause-goes_on : goal.returns-in-ArrayCopy-clause-goes_on
returns-in-ArrayCopy-clause-goes_on c =
    let v = c.args.self.now in
    by_equation reference_operation v c.array_copy.new.self c.args.op (reference.ArrayCopy c.in-ArrayCopy.target c.in-ArrayCopy.source) c.array_copy.result c.in-ArrayCopy.is (open_state c.array_copy.new.self) _ (array_copy_step v c.requires c.in-ArrayCopy.target c.in-ArrayCopy.source) c.array_copy.ensures.plain

pub returns-in-ArrayInitData-clause-goes_on : goal.returns-in-ArrayInitData-clause-goes_on
returns-in-ArrayInitData-clause-goes_on c =
    let v = c.args.self.now in
    by_equation reference_operation v c.array_init_data.new.self c.args.op (reference.ArrayInitData c.in-ArrayInitData.ty c.in-ArrayInitData.data) c.array_init_data.result c.in-ArrayInitData.is (open_state c.array_init_data.new.self) _ (array_init_data_step v c.requires c.in-ArrayInitData.ty c.in-ArrayInitData.data) c.array_init_data.ensures.plain

pub returns-in-ArrayInitElem-clause-goes_on : goal.returns-in-ArrayInitElem-clause-goes_on
returns-in-ArrayInitElem-clause-goes_on c =
    let v = c.args.self.now in
    by_equation reference_operation v c.array_init_elem.new.self c.args.op (reference.ArrayInitElem c.in-ArrayInitElem.ty c.in-ArrayInitElem.element) c.array_init_elem.result c.in-ArrayInitElem.is (open_state c.array_init_elem.new.self) _ (array_init_elem_step v c.requires c.in-ArrayInitElem.ty c.in-ArrayInitElem.element) c.array_init_elem.ensures.plain

pub returns-in-RefTest-clause-goes_on : goal.returns-in-RefTest-clause-goes_on
returns-in-RefTest-clause-goes_on c =
    let v = c.args.self.now in
    by_equation reference_operation v c.reference_test.new.self c.args.op (reference.RefTest c.in-RefTest.nullable c.in-RefTest.heap_type) c.reference_test.result c.in-RefTest.is (open_state c.reference_test.new.self) _ (ref_test_step v c.requires c.in-RefTest.nullable c.in-RefTest.heap_type) c.reference_test.ensures.plain

pub returns-in-RefCast-clause-goes_on : goal.returns-in-RefCast-clause-goes_on
returns-in-RefCast-clause-goes_on c =
    let v = c.args.self.now in
    by_equation reference_operation v c.reference_cast.new.self c.args.op (reference.RefCast c.in-RefCast.nullable c.in-RefCast.heap_type) c.reference_cast.result c.in-RefCast.is (open_state c.reference_cast.new.self) _ (ref_cast_step v c.requires c.in-RefCast.nullable c.in-RefCast.heap_type) c.reference_cast.ensures.plain

pub returns-in-BrOnCast-clause-goes_on : goal.returns-in-BrOnCast-clause-goes_on
returns-in-BrOnCast-clause-goes_on c =
    let v = c.args.self.now in
    by_equation reference_operation v c.branch_on_cast.new.self c.args.op (reference.BrOnCast c.in-BrOnCast.cast) c.branch_on_cast.result c.in-BrOnCast.is (open_state c.branch_on_cast.new.self) _ (cast_is v c.in-BrOnCast.cast c.requires) c.branch_on_cast.ensures.branches

pub returns-in-BrOnCastFail-clause-goes_on : goal.returns-in-BrOnCastFail-clause-goes_on
returns-in-BrOnCastFail-clause-goes_on c =
    let v = c.args.self.now in
    by_equation reference_operation v c.branch_on_cast_fail.new.self c.args.op (reference.BrOnCastFail c.in-BrOnCastFail.cast) c.branch_on_cast_fail.result c.in-BrOnCastFail.is (open_state c.branch_on_cast_fail.new.self) _ (cast_fail_is v c.in-BrOnCastFail.cast c.requires) c.branch_on_cast_fail.ensures.branches

pub returns-in-AnyConvertExtern-clause-goes_on : goal.returns-in-AnyConvertExtern-clause-goes_on
returns-in-AnyConvertExtern-clause-goes_on c =
    let v = c.args.self.now in
    by_equation reference_operation v c.convert.new.self c.args.op reference.AnyConvertExtern c.convert.result c.in-AnyConvertExtern.is (open_state c.convert.new.self) _ (any_convert_extern_step v c.requires) c.convert.ensures.plain

pub returns-in-ExternConvertAny-clause-goes_on : goal.returns-in-ExternConvertAny-clause-goes_on
returns-in-ExternConvertAny-clause-goes_on c =
    let v = c.args.self.now in
    by_equation reference_operation v c.convert-in-ExternConvertAny.new.self c.args.op reference.ExternConvertAny c.convert-in-ExternConvertAny.result c.in-ExternConvertAny.is (open_state c.convert-in-ExternConvertAny.new.self) _ (extern_convert_any_step v c.requires) c.convert-in-ExternConvertAny.ensures.plain

pub returns-in-RefI31-clause-goes_on : goal.returns-in-RefI31-clause-goes_on
returns-in-RefI31-clause-goes_on c =
    let v = c.args.self.now in
    by_equation reference_operation v c.i31_new.new.self c.args.op reference.RefI31 c.i31_new.result c.in-RefI31.is (open_state c.i31_new.new.self) _ (ref_i31_step v c.requires) c.i31_new.ensures.plain

pub returns-in-I31GetS-clause-goes_on : goal.returns-in-I31GetS-clause-goes_on
returns-in-I31GetS-clause-goes_on c =
    let v = c.args.self.now in
    by_equation reference_operation v c.i31_get.new.self c.args.op reference.I31GetS c.i31_get.result c.in-I31GetS.is (open_state c.i31_get.new.self) _ (i31_get_s_step v c.requires) c.i31_get.ensures.plain

pub returns-in-I31GetU-clause-goes_on : goal.returns-in-I31GetU-clause-goes_on
returns-in-I31GetU-clause-goes_on c =
    let v = c.args.self.now in
    by_equation reference_operation v c.i31_get-in-I31GetU.new.self c.args.op reference.I31GetU c.i31_get-in-I31GetU.result c.in-I31GetU.is (open_state c.i31_get-in-I31GetU.new.self) _ (i31_get_u_step v c.requires) c.i31_get-in-I31GetU.ensures.plain
