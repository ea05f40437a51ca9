-- An operation that is written with the new index of its local is read as that.
use Rattle.std.proofs.Common.{◌≡◌, ℕ, ◌^◌, ◌<◌, true, false, eqb, leb, List, [], ◌∷◌, ◌++◌, length, Option, Some, None, Ok, Err, option_map, refl, sym, ap, ◌∙◌, subst, inl, inr, ◌⊎◌, append_assoc, length-append, arith}
use Rattle.std.proofs.lemmas.Bool.{eqb-true, eqb-false, or_cases, le-leb}
use Rattle.std.proofs.lemmas.List.{take_at, drop_at}
use Rattle.std.proofs.lemmas.Option.{same_Some}
use Rattle.wasm_numbers.proofs.ResultLemmas.{ok_same}
use Rattle.code_moves.specs.declared.body.Body.{Body}
use Rattle.code_moves.specs.Moves.{new_local_in}
use Rattle.dwarf_bytes.specs.declared.fault.DebugFault.{DebugFault}
use Rattle.dwarf_bytes.specs.declared.fault.DebugFault.TheVariants as faults
use Rattle.dwarf_bytes.specs.Writing.{padded}
use Rattle.dwarf_bytes.proofs.Padded.{padded_read}
use Rattle.dwarf_expressions.specs.declared.encoding.Encoding.{Encoding}
use Rattle.dwarf_expressions.specs.declared.operand.Operand.TheVariants.{Nothing, Expression}
use Rattle.dwarf_expressions.specs.Operands.{expression_operands}
use Rattle.dwarf_expressions.specs.Expressions.{Simple, ExpressionOperation, local, other, simple, entry_value, names_local, expression_operand, simple_operation, is_entry_value, entry_value_parts, BeginWith, BeginsSimple, Begins, IsExpression}
use Rattle.dwarf_expressions.specs.Moving.{moved_simple, expression_written, HasIndex}
use Rattle.dwarf_expressions.proofs.Again.{again, no_operation, not_both, entry_shorter}
use Rattle.dwarf_expressions.proofs.Loops.{IsOneWay, all_are, left_of_all}

local_read : (e : Encoding) (width index : ℕ) (following : List ℕ) → index < 2 ^ 64 → simple_operation e (0xed ∷ 0 ∷ (padded width index ++ following)) ≡ Ok (local index, following)
unfolding simple_operation
local_read e width index following few = let read = padded_read width index following few in rw read refl

pub written_read : (e : Encoding) (b : Body) (bytes : List ℕ) (s new : Simple) (rest : List ℕ) (width : ℕ) → simple_operation e bytes ≡ Ok (s, rest) → moved_simple b s ≡ Some new → HasIndex new
    → (following : List ℕ) → simple_operation e (expression_written width new ++ following) ≡ Ok (new, following)
written_read e b bytes (local i) new rest width r m few following = local_new (new_local_in b i) m few
  where
    local_new : (to : Option ℕ) → option_map local to ≡ Some new → HasIndex new → simple_operation e (expression_written width new ++ following) ≡ Ok (new, following)
    local_new None p q = absurd cc
    local_new (Some n) p q =
        let same : local n ≡ new = same_Some (local n) new p in
        subst (λ (x : Simple). HasIndex x → simple_operation e (expression_written width x ++ following) ≡ Ok (x, following)) same (local_read e width n following) q
written_read e b bytes (other code ops) new rest width r m few following =
    let same : other code ops ≡ new = same_Some (other code ops) new m in
    subst (λ (x : Simple). simple_operation e (expression_written width x ++ following) ≡ Ok (x, following)) same ((again e bytes (other code ops) rest r).1 following)

pub one_way_simple : (e : Encoding) → IsOneWay (BeginsSimple e)
one_way_simple e = record {
  same = λ bytes x y n m p q.
      let both = ok_same (x, n) (y, m) (sym p ∙ q) in
      (ap (λ (z : Simple × List ℕ). z.0) both, ap (λ (z : Simple × List ℕ). z.1) both);
  some = λ x n p. not_both (no_operation e) p;
}

-- an expression that is read doesn't fail in its middle
pub no_fault : (e : Encoding) (bytes next : List ℕ) (ss all : List Simple) (fault : DebugFault) → BeginWith (BeginsSimple e) bytes ss next → BeginWith (BeginsSimple e) bytes all []
    → false ≡ eqb (length next) 0 → simple_operation e next ≡ Err fault → ⊥
no_fault e bytes next ss all fault p q some r =
    elim (left_of_all (BeginsSimple e) (one_way_simple e) bytes next ss all p q) [
      | inl none ↦ eqb-false (length next) 0 (sym some) (ap length none)
      | inr x ↦ not_both r x.2
    ]

-- ---- DW_OP_entry_value

known_first : expression_operands 0xa3 ≡ Some (Expression, Nothing)
unfolding expression_operands
known_first = refl

known_other : expression_operands 0xf3 ≡ Some (Expression, Nothing)
unfolding expression_operands
known_other = refl

not_local : (code : ℕ) (bytes : List ℕ) → eqb code 0xed ≡ false → names_local (code ∷ bytes) ≡ false
not_local code [] e = refl
not_local code (k ∷ bytes) e = rw e refl

no_expression : (e : Encoding) (code : ℕ) (bytes : List ℕ) → names_local (code ∷ bytes) ≡ false → expression_operands code ≡ Some (Expression, Nothing) → simple_operation e (code ∷ bytes) ≡ Err faults.Unsupported
unfolding simple_operation expression_operand
no_expression e code bytes f known = rw (f, known) refl

entry_refused : (e : Encoding) (code : ℕ) (bytes : List ℕ) → (eqb code 0xa3 ≡ true) ⊎ (eqb code 0xf3 ≡ true) → simple_operation e (code ∷ bytes) ≡ Err faults.Unsupported
entry_refused e code bytes (inl t) =
    let is = eqb-true code 0xa3 t in
    subst (λ (n : ℕ). simple_operation e (n ∷ bytes) ≡ Err faults.Unsupported) (sym is) (no_expression e 0xa3 bytes (not_local 0xa3 bytes refl) known_first)
entry_refused e code bytes (inr t) =
    let is = eqb-true code 0xf3 t in
    subst (λ (n : ℕ). simple_operation e (n ∷ bytes) ≡ Err faults.Unsupported) (sym is) (no_expression e 0xf3 bytes (not_local 0xf3 bytes refl) known_other)

entry_not_simple : (e : Encoding) (bytes : List ℕ) (s : Simple) (rest : List ℕ) → is_entry_value bytes ≡ true → simple_operation e bytes ≡ Ok (s, rest) → ⊥
entry_not_simple e [] s rest t r = absurd cc
entry_not_simple e (code ∷ bytes) s rest t r = not_both (entry_refused e code bytes (or_cases (eqb code 0xa3) (eqb code 0xf3) t)) r

same_entry : (e : Encoding) (bytes inside other_inside : List ℕ) (c d : ℕ) (ss ts : List Simple) (n m : List ℕ) → entry_value_parts bytes ≡ Ok ((c, inside), n) → entry_value_parts bytes ≡ Ok ((d, other_inside), m)
    → BeginWith (BeginsSimple e) inside ss [] → BeginWith (BeginsSimple e) other_inside ts [] → (entry_value c ss ≡ entry_value d ts) × (n ≡ m)
same_entry e bytes inside other_inside c d ss ts n m p q r s =
    let both = ok_same ((c, inside), n) ((d, other_inside), m) (sym p ∙ q) in
    let code : c ≡ d = ap (λ (z : (ℕ × List ℕ) × List ℕ). z.0.0) both in
    let text : inside ≡ other_inside = ap (λ (z : (ℕ × List ℕ) × List ℕ). z.0.1) both in
    let rest : n ≡ m = ap (λ (z : (ℕ × List ℕ) × List ℕ). z.1) both in
    let same = all_are (BeginsSimple e) (one_way_simple e) inside ss ts r (subst (λ (l : List ℕ). BeginWith (BeginsSimple e) l ts []) (sym text) s) in
    (ap (λ (x : ℕ). entry_value x ss) code ∙ ap (entry_value d) (sym same), rest)

same_operation : (e : Encoding) (bytes : List ℕ) (x y : ExpressionOperation) (n m : List ℕ) → Begins e bytes x n → Begins e bytes y m → (x ≡ y) × (n ≡ m)
same_operation e bytes (simple s) (simple t) n m p q = let both = (one_way_simple e).same bytes s t n m p q in (ap simple both.0, both.1)
same_operation e bytes (simple s) (entry_value d ts) n m p q = absurd (entry_not_simple e bytes s n q.1 p)
same_operation e bytes (entry_value c ss) (simple t) n m p q = absurd (entry_not_simple e bytes t m p.1 q)
same_operation e bytes (entry_value c ss) (entry_value d ts) n m p q = same_entry e bytes p.0 q.0 c d ss ts n m p.2 q.2 p.3 q.3

some_operation : (e : Encoding) (x : ExpressionOperation) (n : List ℕ) → Begins e [] x n → ⊥
some_operation e (simple s) n p = (one_way_simple e).some s n p
some_operation e (entry_value c ss) n p = let f : false ≡ true = p.1 in cc

pub one_way : (e : Encoding) → IsOneWay (Begins e)
one_way e = record { same = same_operation e; some = some_operation e }

-- what is left of an expression and isn't empty begins with an operation
next_begins : (e : Encoding) (bytes next : List ℕ) (os all : List ExpressionOperation) → BeginWith (Begins e) bytes os next → IsExpression e bytes all → false ≡ eqb (length next) 0
    → (x : ExpressionOperation) × (rest : List ℕ) × Begins e next x rest × ((others : List ExpressionOperation) × (all ≡ os ++ x ∷ others))
next_begins e bytes next os all p q some =
    elim (left_of_all (Begins e) (one_way e) bytes next os all p q) [
      | inl none ↦ absurd (eqb-false (length next) 0 (sym some) (ap length none))
      | inr x ↦ x
    ]

-- what begins with DW_OP_entry_value
abbrev IsEntry : Encoding → List ℕ → List ExpressionOperation → List ExpressionOperation → Type 0
IsEntry e next os all =
    (code : ℕ) × (ss : List Simple) × (inside rest : List ℕ) × (entry_value_parts next ≡ Ok ((code, inside), rest)) × BeginWith (BeginsSimple e) inside ss []
    × ((others : List ExpressionOperation) × (all ≡ os ++ entry_value code ss ∷ others))

entry_of : (e : Encoding) (next : List ℕ) (os all : List ExpressionOperation) (x : ExpressionOperation) (rest : List ℕ) → is_entry_value next ≡ true → Begins e next x rest → ((others : List ExpressionOperation) × (all ≡ os ++ x ∷ others)) → IsEntry e next os all
entry_of e next os all (simple s) rest t p q = absurd (entry_not_simple e next s rest t p)
entry_of e next os all (entry_value c ss) rest t p q = (c, ss, p.0, rest, p.2, p.3, q)

pub next_entry : (e : Encoding) (bytes next : List ℕ) (os all : List ExpressionOperation) → BeginWith (Begins e) bytes os next → IsExpression e bytes all → false ≡ eqb (length next) 0 → is_entry_value next ≡ true → IsEntry e next os all
next_entry e bytes next os all p q some t = let x = next_begins e bytes next os all p q some in entry_of e next os all x.0 x.1 t x.2 x.3

abbrev IsNextSimple : Encoding → List ℕ → List ExpressionOperation → List ExpressionOperation → Type 0
IsNextSimple e next os all = (s : Simple) × (rest : List ℕ) × (simple_operation e next ≡ Ok (s, rest)) × ((others : List ExpressionOperation) × (all ≡ os ++ simple s ∷ others))

simple_next_of : (e : Encoding) (next : List ℕ) (os all : List ExpressionOperation) (x : ExpressionOperation) (rest : List ℕ) → is_entry_value next ≡ false → Begins e next x rest → ((others : List ExpressionOperation) × (all ≡ os ++ x ∷ others)) → IsNextSimple e next os all
simple_next_of e next os all (simple s) rest f p q = (s, rest, p, q)
simple_next_of e next os all (entry_value c ss) rest f p q = let both : false ≡ true = sym f ∙ p.1 in absurd cc

pub next_simple : (e : Encoding) (bytes next : List ℕ) (os all : List ExpressionOperation) → BeginWith (Begins e) bytes os next → IsExpression e bytes all → false ≡ eqb (length next) 0 → is_entry_value next ≡ false → IsNextSimple e next os all
next_simple e bytes next os all p q some f = let x = next_begins e bytes next os all p q some in simple_next_of e next os all x.0 x.1 f x.2 x.3

-- DW_OP_entry_value that is written is read
entry_parts : (code width : ℕ) (inside following : List ℕ) → length inside < 2 ^ 64 → entry_value_parts (code ∷ (padded width (length inside) ++ (inside ++ following))) ≡ Ok ((code, inside), following)
unfolding entry_value_parts
entry_parts code width inside following few =
    let read = padded_read width (length inside) (inside ++ following) few in
    let fits : leb (length inside) (length (inside ++ following)) ≡ true = le-leb _ _ (omega (arith, length-append inside following)) in
    rw (read, fits, take_at inside following (length inside) refl, drop_at inside following (length inside) refl) refl

entry_code : (next : List ℕ) (code : ℕ) (inside rest : List ℕ) (bytes : List ℕ) → is_entry_value next ≡ true → entry_value_parts next ≡ Ok ((code, inside), rest) → is_entry_value (code ∷ bytes) ≡ true
entry_code next code inside rest bytes t p = let s = entry_shorter next code inside rest p in subst (λ (l : List ℕ). is_entry_value l ≡ true) s.1 t

pub entry_read : (e : Encoding) (next : List ℕ) (code width : ℕ) (old_inside rest inside : List ℕ) (news : List Simple) → is_entry_value next ≡ true → entry_value_parts next ≡ Ok ((code, old_inside), rest)
    → length inside < 2 ^ 64 → BeginWith (BeginsSimple e) inside news []
    → (following : List ℕ) → Begins e ((code ∷ (padded width (length inside) ++ inside)) ++ following) (entry_value code news) following
entry_read e next code width old_inside rest inside news t p few reads following =
    let text = append_assoc (padded width (length inside)) inside following in
    subst (λ (l : List ℕ). Begins e (code ∷ l) (entry_value code news) following) (sym text)
    (inside, entry_code next code old_inside rest (padded width (length inside) ++ (inside ++ following)) t p, entry_parts code width inside following few, reads)
