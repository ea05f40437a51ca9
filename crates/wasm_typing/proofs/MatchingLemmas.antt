-- Each type matches itself.
use Rattle.std.proofs.Common.{◌≡◌, ℕ, Bool, true, false, refl, eq-eqb}
use Rattle.wasm_types.specs.declared.val_type.AbstractHeapType.{AbstractHeapType}
use Rattle.wasm_types.specs.declared.val_type.AbstractHeapType.TheVariants as abstract
use Rattle.wasm_types.specs.declared.val_type.HeapType.{HeapType}
use Rattle.wasm_types.specs.declared.val_type.HeapType.TheVariants.{Abstract, Concrete}
use Rattle.wasm_types.specs.declared.val_type.ValType.TheVariants.{I32, Ref}
use Rattle.wasm_typing.specs.Contexts.{OperandContext}
use Rattle.wasm_typing.specs.Matching.{matches_abstract, first_of, matches_heap, matches_null}
use Rattle.wasm_typing.specs.RuleLaws.{MatchesItself}

pub abstract_itself : (a : AbstractHeapType) → matches_abstract a a ≡ true
abstract_itself abstract.NoExn = refl
abstract_itself _ = refl

pub heap_itself : (c : OperandContext) (h : HeapType ℕ) → matches_heap c h h ≡ true
heap_itself c (Abstract a) = abstract_itself a
heap_itself c (Concrete id) = let e = eq-eqb (first_of c id) (first_of c id) refl in rw e refl

null_itself : (b : Bool) → matches_null b b ≡ true
null_itself true = refl
null_itself false = refl

pub matches_itself : MatchesItself
matches_itself c (Ref r) = rw (null_itself r.nullable, heap_itself c r.heap_type) refl
matches_itself c I32 = refl
matches_itself c _ = refl
