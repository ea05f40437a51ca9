use Rattle.std.proofs.Common.{Global, refl, ◌≡◌, ◌+◌, ◌++◌, length, true, arith, rules, sym, ap, ◌∙◌, vec_len}
use Rattle.std.specs.Prelude.{map, unwrap_or, Result, Ok, Err, OnOk}
use Rattle.std.specs.List.{list_all, range_with_len, zip}
use Rattle.std.proofs.lemmas.List.{length-map}
use Rattle.std.proofs.lemmas.Result.{on_ok_weaker}
use Rattle.wasm_typing.specs.RecursiveTypes.{defined}
use Rattle.wasm_context.specs.Contexts.{defined_of}
use Rattle.wasm_context.specs.Declarations.{declared_of, declared_within, firsts_in, group_key, at_key}
use Rattle.wasm_context.proofs.Placing.{first_low, finals_declared, defines}
use Rattle.wasm_context.specs.declared.context.Context.{Context}
use Rattle.wasm_context.specs.declared.definitions.Definitions.{Definitions}
use Rattle.wasm_context.specs.declared.types.DefinedType.{DefinedType}
use Rattle.std.specs.declared.vec.Vec.{Vec}
use Rattle.wasm_context.proofs.definitions.Definitions.add.Goals as goal

abbrev with_pushed : Context → Vec DefinedType Global → Context
with_pushed c ts = record {
  types = ts;
  functions = c.functions;
  referenced = c.referenced;
  tables = c.tables;
  memories = c.memories;
  globals = c.globals;
  elements = c.elements;
  data_segments = c.data_segments;
  tags = c.tags;
}

both_ok : {T E : Type 0} (P Q : Type 0) (r : Result T E) → OnOk r P → OnOk r Q → OnOk r (P × Q)
both_ok P Q (Ok x) p q = (p, q)
both_ok P Q (Err e) p q = tt

pub returns : goal.returns
returns c = λ groups is.
    let d = c.args.self.now in
    let e : Definitions = record { context = with_pushed d.context c.push_types.new.types; finals = c.push_types.new.finals; places = c.place.new.self; alloc = d.alloc } in
    let g = map declared_of c.args.group.items in
    let start = c.len-start.result in
    let place = c.in_ok-place.field-0 in
    let key = c.in_ok-key.key.items in
    let starts : start ≡ length d.context.types.items = search rules in
    let key_is : key ≡ group_key (firsts_in d.context.types.items) g =
    c.in_ok-key.ensures ∙ (λ i. group_key (firsts_in (c.deref.ensures.value i)) (map declared_of (c.deref-2.ensures.value i))) in
    let items : length c.args.group.items ≡ vec_len c.args.group = search rules in
    let types_long : length d.context.types.items ≡ vec_len d.context.types = search rules in
    let long : length g ≡ length c.args.group.items = length-map c.args.group.items declared_of in
    let end : vec_len d.context.types + vec_len c.args.group ≡ start + length g = omega arith in
    let closed : list_all (declared_within (start + length g)) g ≡ true = ap (λ n. list_all (declared_within n) g) (sym end) ∙ c.requires.below in
    let place_is : place ≡ unwrap_or (at_key d.places key) start = c.in_ok-place.ensures.place in
    let low = first_low d e groups g place start key is starts key_is closed place_is in
    let least : c.min-first.result ≡ place = omega arith in
    on_ok_weaker c.push_types.result
    (λ all. defines d e groups g place start key is starts key_is closed place_is
    (all.0 ∙ (λ i. map defined_of d.context.types.items ++ map defined (zip g (range_with_len (least i) (sym long i))))) refl
    (all.1 ∙ ap (λ l. d.finals.items ++ l) (finals_declared c.args.group.items)) c.in_ok-place.ensures.adds)
    (both_ok _ _ c.push_types.result c.push_types.ensures.types c.push_types.ensures.finals)
