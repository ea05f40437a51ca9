-- Types that pass the test are those of a module.
use Rattle.std.proofs.Common.{◌≡◌, ℕ, length, true, Option, Some, None, refl, sym, ap, ◌∙◌, subst, inl, inr}
use Rattle.std.specs.Prelude.{◌<◌, ◌≤◌, ◌&&◌, ◌==◌, nat_lt, option_map, unwrap_or}
use Rattle.std.proofs.lemmas.Bool.{eqb-true, ltb-true}
use Rattle.std.proofs.lemmas.Bool.Decides.{leb_tells}
use Rattle.wasm_types.specs.TypeOrder.{rank_of}
use Rattle.wasm_operators.proofs.SameLists.{both}
use Rattle.wasm_typing.specs.Contexts.{OperandContext}
use Rattle.wasm_typing.specs.Matching.{heap_kind_at, first_of, supertype_of}
use Rattle.wasm_typing.specs.MatchingLaws.{same_option, same_kinds, is_supertype, is_type, are_types, TypesAreTested}
use Rattle.wasm_typing.proofs.Coverage.{passes_below}
use Rattle.wasm_typing.proofs.MatchingRules.{same_rank, past_end, no_supertype}

same_by : {X Y : Type 0} (number : X → ℕ) (f : X → Y) → ((x y : X) → (number x == number y) ≡ true → f x ≡ f y) → (o p : Option X)
    → same_option number o p ≡ true → option_map f o ≡ option_map f p
same_by number f g None None h = refl
same_by number f g (Some x) (Some y) h = ap Some (g x y h)
same_by number f g None (Some y) h = absurd cc
same_by number f g (Some x) None h = absurd cc

same_itself : {X : Type 0} (o : Option X) → option_map (λ x. x) o ≡ o
same_itself None = refl
same_itself (Some x) = refl

one_kind : (c : OperandContext) (m n : ℕ) → same_kinds c m n ≡ true → heap_kind_at c m ≡ heap_kind_at c n
one_kind c m n h = sym (same_itself (heap_kind_at c m)) ∙ same_by rank_of (λ k. k) same_rank (heap_kind_at c m) (heap_kind_at c n) h ∙ same_itself (heap_kind_at c n)

-- ---- what is tested of a type

record Tested (c : OperandContext) (m : ℕ) : Type 0 where
  supertype : is_supertype c m (supertype_of c m) ≡ true
  kind : heap_kind_at c m ≡ heap_kind_at c (first_of c m)
  first : option_map (first_of c) (supertype_of c m) ≡ option_map (first_of c) (supertype_of c (first_of c m))

by_test : (c : OperandContext) (m : ℕ) → is_type c m ≡ true → Tested c m
by_test c m h =
    let s = same_option (first_of c) (supertype_of c m) (supertype_of c (first_of c m)) in
    let q = both (is_supertype c m (supertype_of c m) && same_kinds c m (first_of c m)) s h in
    let p = both (is_supertype c m (supertype_of c m)) (same_kinds c m (first_of c m)) q.0 in
    record {
      supertype = p.0;
      kind = one_kind c m (first_of c m) p.1;
      first = same_by (first_of c) (first_of c) (λ x y e. eqb-true (first_of c x) (first_of c y) e) (supertype_of c m) (supertype_of c (first_of c m)) q.1;
    }

-- an id that no type has
itself_past : (c : OperandContext) (m : ℕ) → length c.types ≤ m → first_of c m ≡ m
itself_past c m l = ap (λ o. unwrap_or (option_map (λ t. t.first) o) m) (past_end c.types m l)

past : (c : OperandContext) (m : ℕ) → length c.types ≤ m → Tested c m
past c m l =
    let no = no_supertype c m l in
    let same = itself_past c m l in
    record {
      supertype = ap (is_supertype c m) no;
      kind = ap (heap_kind_at c) (sym same);
      first = ap (λ n. option_map (first_of c) (supertype_of c n)) (sym same);
    }

tested : (c : OperandContext) → are_types c ≡ true → (m : ℕ) → Tested c m
tested c h m = elim (leb_tells (length c.types) m) [
  | inl l ↦ past c m l.1
  | inr l ↦ by_test c m (passes_below (length c.types) (is_type c) h m l.1)
]

of_supertype : (c : OperandContext) (m s : ℕ) → is_supertype c m (supertype_of c m) ≡ true → supertype_of c m ≡ Some s → (s < m) × (heap_kind_at c m ≡ heap_kind_at c s)
of_supertype c m s h e =
    let to : is_supertype c m (Some s) ≡ true = subst (λ o. is_supertype c m o ≡ true) e h in
    let p = both (nat_lt s m) (same_kinds c m s) to in
    (ltb-true s m p.0, one_kind c m s p.1)

pub types_are_tested : TypesAreTested
types_are_tested c h = record {
  before = λ m s e. (of_supertype c m s (tested c h m).supertype e).0;
  of_one_kind = λ m s e. (of_supertype c m s (tested c h m).supertype e).1;
  same_kind = λ m n e. (tested c h m).kind ∙ ap (heap_kind_at c) e ∙ sym (tested c h n).kind;
  same_supertype = λ m n e. (tested c h m).first ∙ ap (λ i. option_map (first_of c) (supertype_of c i)) e ∙ sym (tested c h n).first;
}
