use Rattle.walrus_flat.proofs.TypeBytes.{without_result, with_i32, with_i64, with_f32, with_f64, with_v128}
use Rattle.walrus_flat.proofs.writer.type_byte.Goals as goal

pub returns-in-Simple-None : goal.returns-in-Simple-None
returns-in-Simple-None c = without_result c.args.ty _ c.in-Simple-None.is c.in-Simple-None.field-0-is

pub returns-in-I32 : goal.returns-in-I32
returns-in-I32 c = with_i32 c.args.ty _ c.in-Simple-Some.is _ c.in-Simple-Some.field-0-is c.in-I32.is

pub returns-in-I64 : goal.returns-in-I64
returns-in-I64 c = with_i64 c.args.ty _ c.in-Simple-Some.is _ c.in-Simple-Some.field-0-is c.in-I64.is

pub returns-in-F32 : goal.returns-in-F32
returns-in-F32 c = with_f32 c.args.ty _ c.in-Simple-Some.is _ c.in-Simple-Some.field-0-is c.in-F32.is

pub returns-in-F64 : goal.returns-in-F64
returns-in-F64 c = with_f64 c.args.ty _ c.in-Simple-Some.is _ c.in-Simple-Some.field-0-is c.in-F64.is

pub returns-in-V128 : goal.returns-in-V128
returns-in-V128 c = with_v128 c.args.ty _ c.in-Simple-Some.is _ c.in-Simple-Some.field-0-is c.in-V128.is
