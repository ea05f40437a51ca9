-- Operands are popped and pushed as in the algorithm, at a point as in the whole stack.
use Rattle.std.proofs.Common.{◌≡◌, ℕ, ◌-◌, List, [], ◌∷◌, ◌++◌, length, reverse, take, drop, Bool, true, false, Ok, Err, refl, sym, ap, ◌∙◌, arith, eq-eqb, length-append}
use Rattle.std.proofs.Math.Seq.{take-append_seam, drop-append_seam}
use Rattle.std.specs.Result.{result_ok}
use Rattle.std.specs.Prelude.{nat_eq}
use Rattle.std.proofs.lemmas.Bool.Decides.{nat_tests}
use Rattle.wasm_types.specs.declared.val_type.ValType.{ValType}
use Rattle.wasm_numbers.specs.Results.{◌>>=◌}
use Rattle.wasm_body.specs.NormalForm.{Typing}
use Rattle.wasm_body.specs.Validity.{Operand, Unknown, Known, Point, Change, ControlFrame, Checked, refused, demand, required, set_locals, above, up_to}
use Rattle.wasm_body.specs.Validity as algorithm
use Rattle.wasm_body.specs.ValidityLaws.{KnownOperand, of_type}
use Rattle.wasm_typing.specs.Contexts.{OperandContext}
use Rattle.wasm_typing.specs.Matching.{matches_known}
use Rattle.wasm_typing.specs.Operands.{InstructionType, Operands, pop_operand, pop_each_operand, pop_operands, push_operands, typed}
use Rattle.wasm_typing.specs.StandardRules.{standard_rules}
use Rattle.wasm_typing.specs.RuleLaws.{stacks}

-- ---- popping

-- In a frame: nothing is above its height, or an operand is.
pub at_height : (n : ℕ) (ys : Operands) → n ≡ length ys → nat_eq (length ys) n ≡ true
at_height n ys h = eq-eqb (length ys) n (sym h)

pub over_height : (n : ℕ) (x : Operand KnownOperand) (xs ys : Operands) → n ≡ length ys → nat_eq (length (x ∷ (xs ++ ys))) n ≡ false
over_height n x xs ys h = let e = length-append xs ys in grind (arith, nat_tests)

after_demand : (test : Bool) (xs ys : Operands) → (demand test >>= λ u. Ok (xs ++ ys)) ≡ ((demand test >>= λ u. Ok xs) >>= λ zs. Ok (zs ++ ys))
after_demand true xs ys = refl
after_demand false xs ys = refl

pub pops : (m : Typing) (c : OperandContext) (f : ControlFrame) (t : ValType ℕ) (xs ys : Operands) → f.height ≡ length ys
    → algorithm.pop m (standard_rules c) f t (xs ++ ys) ≡ (pop_operand c f.unreachable t xs >>= λ zs. Ok (zs ++ ys))
pops m c f t [] ys h = rw (at_height f.height ys h) (after_demand f.unreachable [] ys)
pops m c f t (Unknown ∷ xs) ys h = rw (over_height f.height Unknown xs ys h) refl
pops m c f t (Known k ∷ xs) ys h = rw (over_height f.height (Known k) xs ys h) (after_demand (matches_known c k t) xs ys)

-- the first pops, and then the others
after_first : (a : Checked Operands) (k l : Operands → Checked Operands) (ys : Operands) → ((zs : Operands) → k (zs ++ ys) ≡ (l zs >>= λ ws. Ok (ws ++ ys)))
    → ((a >>= λ zs. Ok (zs ++ ys)) >>= k) ≡ ((a >>= l) >>= λ ws. Ok (ws ++ ys))
after_first (Ok zs) k l ys f = f zs
after_first (Err e) k l ys f = refl

pops_each : (m : Typing) (c : OperandContext) (f : ControlFrame) (ts : List (ValType ℕ)) (xs ys : Operands) → f.height ≡ length ys
    → algorithm.pop_each m (standard_rules c) f ts (xs ++ ys) ≡ (pop_each_operand c f.unreachable ts xs >>= λ zs. Ok (zs ++ ys))
pops_each m c f [] xs ys h = refl
pops_each m c f (t ∷ ts) xs ys h =
    ap (λ a. a >>= algorithm.pop_each m (standard_rules c) f ts) (pops m c f t xs ys h)
    ∙ after_first (pop_operand c f.unreachable t xs) (algorithm.pop_each m (standard_rules c) f ts) (pop_each_operand c f.unreachable ts) ys (λ zs. pops_each m c f ts zs ys h)

pub pops_all : (m : Typing) (c : OperandContext) (f : ControlFrame) (ts : List (ValType ℕ)) (xs ys : Operands) → f.height ≡ length ys
    → algorithm.pop_all m (standard_rules c) f ts (xs ++ ys) ≡ (pop_operands c f.unreachable ts xs >>= λ zs. Ok (zs ++ ys))
pops_all m c f ts xs ys h = pops_each m c f (reverse ts) xs ys h

-- ---- pushing

pub pushes : (m : Typing) (c : OperandContext) (ts : List (ValType ℕ)) (xs ys : Operands)
    → push_operands ts xs ++ ys ≡ algorithm.push_each m (standard_rules c) ts (xs ++ ys)
pushes m c [] xs ys = refl
pushes m c (t ∷ ts) xs ys = pushes m c ts (Known (of_type t) ∷ xs) ys

-- ---- at a point

pub required_again : {X : Type 0} (a : Checked X) → required (result_ok a) ≡ a
required_again (Ok x) = refl
required_again (Err refused) = refl

pub above_height : (n : ℕ) (xs ys : Operands) → n ≡ length ys → above n (xs ++ ys) ≡ xs
above_height n xs ys h =
    let e : length (xs ++ ys) - n ≡ length xs = omega (arith, length-append xs ys, h) in
    ap (λ k. take k (xs ++ ys)) e ∙ take-append_seam xs ys

pub up_to_height : (n : ℕ) (xs ys : Operands) → n ≡ length ys → up_to n (xs ++ ys) ≡ ys
up_to_height n xs ys h =
    let e : length (xs ++ ys) - n ≡ length xs = omega (arith, length-append xs ys, h) in
    ap (λ k. drop k (xs ++ ys)) e ∙ drop-append_seam xs ys

abbrev change : InstructionType → Operands → Change KnownOperand
change t zs = record { operands = push_operands t.gives zs; initialises = t.initialises }

abbrev point_of : ControlFrame → Operands → List ℕ → Point KnownOperand
point_of f xs ls = record { operands = xs; unreachable = f.unreachable; initialised = ls }

-- what follows the pops
then_pushes : (m : Typing) (c : OperandContext) (t : InstructionType) (ys below : Operands) (ls : List ℕ) → below ≡ ys → (a : Checked Operands)
    → ((a >>= λ zs. Ok (change t zs)) >>= λ k. Ok (stacks (k.operands ++ below) (set_locals k.initialises ls)))
    ≡ ((a >>= λ zs. Ok (zs ++ ys)) >>= λ zs. Ok (stacks (algorithm.push_each m (standard_rules c) t.gives zs) (set_locals t.initialises ls)))
then_pushes m c t ys below ls h (Ok zs) =
    ap (λ xs. Ok (stacks xs (set_locals t.initialises ls))) (ap (λ b. push_operands t.gives zs ++ b) h ∙ pushes m c t.gives zs ys)
then_pushes m c t ys below ls h (Err e) = refl

-- what a rule makes of a point by a type
pub typed_point : (m : Typing) (c : OperandContext) (t : InstructionType) (f : ControlFrame) (xs ys : Operands) (ls : List ℕ) → f.height ≡ length ys
    → (required (result_ok (typed c t (algorithm.point m (standard_rules c) f (stacks (xs ++ ys) ls)))) >>= λ k. Ok (algorithm.changed m (standard_rules c) f k (stacks (xs ++ ys) ls)))
    ≡ (algorithm.pop_all m (standard_rules c) f t.takes (xs ++ ys) >>= λ zs. Ok (stacks (algorithm.push_each m (standard_rules c) t.gives zs) (set_locals t.initialises ls)))
typed_point m c t f xs ys ls h =
    let after : Change KnownOperand → Checked (algorithm.Stacks KnownOperand) = λ k. Ok (algorithm.changed m (standard_rules c) f k (stacks (xs ++ ys) ls)) in
    ap (λ zs. required (result_ok (typed c t (point_of f zs ls))) >>= after) (above_height f.height xs ys h)
    ∙ ap (λ a. a >>= after) (required_again (typed c t (point_of f xs ls)))
    ∙ then_pushes m c t ys (up_to f.height (xs ++ ys)) ls (up_to_height f.height xs ys h) (pop_operands c f.unreachable t.takes xs)
    ∙ ap (λ a. a >>= λ zs. Ok (stacks (algorithm.push_each m (standard_rules c) t.gives zs) (set_locals t.initialises ls))) (sym (pops_all m c f t.takes xs ys h))
