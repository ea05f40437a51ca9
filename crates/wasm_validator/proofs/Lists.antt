-- Lists of operands whose last item is the topmost, and of initialised locals.
use Rattle.std.proofs.Common.{◌≡◌, ℕ, ◌+◌, ◌-◌, ◌≤◌, List, [], ◌∷◌, ◌++◌, length, take, drop, refl, sym, ap, ◌∙◌, append_assoc, arith, length-append}
use Rattle.std.proofs.lemmas.List.{take-append-drop, length-drop, length-take-le}
use Rattle.std.proofs.Math.Seq.{drop-append_seam}
use Rattle.wasm_body.specs.Validity.{up_to}
use Rattle.wasm_validator.specs.declared.operand.Operand.{Operand}
use Rattle.wasm_validator.specs.States.{Known, known_of, operands_onto}

pub onto_last : (xs : List Operand) (x : Operand) (ys : List Known) → operands_onto (xs ++ x ∷ []) ys ≡ known_of x ∷ operands_onto xs ys
onto_last [] x ys = refl
onto_last (w ∷ xs) x ys = onto_last xs x (known_of w ∷ ys)

pub length_onto : (xs : List Operand) (ys : List Known) → length (operands_onto xs ys) ≡ length xs + length ys
length_onto [] ys = omega arith
length_onto (w ∷ xs) ys = let h = length_onto xs (known_of w ∷ ys) in omega arith

onto_append : (xs ys : List Operand) (zs : List Known) → operands_onto (xs ++ ys) zs ≡ operands_onto ys (operands_onto xs zs)
onto_append [] ys zs = refl
onto_append (w ∷ xs) ys zs = onto_append xs ys (known_of w ∷ zs)

onto_before : (xs : List Operand) (ys : List Known) → operands_onto xs ys ≡ operands_onto xs [] ++ ys
onto_before [] ys = refl
onto_before (w ∷ xs) ys = onto_before xs (known_of w ∷ ys) ∙ sym (ap (λ l. l ++ ys) (onto_before xs (known_of w ∷ [])) ∙ append_assoc (operands_onto xs []) (known_of w ∷ []) ys)

-- the lower operands alone
pub lower : (xs : List Operand) (h : ℕ) → operands_onto (take h xs) [] ≡ up_to h (operands_onto xs [])
lower xs h =
    let low = operands_onto (take h xs) [] in
    let high = operands_onto (drop h xs) [] in
    let all : operands_onto xs [] ≡ high ++ low = ap (λ l. operands_onto l []) (sym (take-append-drop h xs)) ∙ onto_append (take h xs) (drop h xs) [] ∙ onto_before (drop h xs) low in
    let a = length_onto xs [] in
    let b = length_onto (drop h xs) [] in
    let d = length-drop h xs in
    let n : length (operands_onto xs []) - h ≡ length high = omega arith in
    sym (ap (λ k. drop k (operands_onto xs [])) n ∙ ap (drop (length high)) all ∙ drop-append_seam high low)

drop_within : {X : Type 0} (n : ℕ) (xs ys : List X) → n ≤ length xs → drop n (xs ++ ys) ≡ drop n xs ++ ys
drop_within n xs ys h =
    let high = take n xs in
    let low = drop n xs in
    let l : length high ≡ n = length-take-le n xs h in
    ap (λ zs. drop n (zs ++ ys)) (sym (take-append-drop n xs)) ∙ ap (drop n) (append_assoc high low ys) ∙ ap (λ k. drop k (high ++ (low ++ ys))) (sym l)
    ∙ drop-append_seam high (low ++ ys)

-- the locals that were set first, and those that are initialised where the function begins
pub earlier : (set initial : List ℕ) (h : ℕ) → up_to h set ++ initial ≡ up_to (h + length initial) (set ++ initial)
earlier set initial h =
    let a = length-append set initial in
    let n : length (set ++ initial) - (h + length initial) ≡ length set - h = omega arith in
    sym (ap (λ k. drop k (set ++ initial)) n ∙ drop_within (length set - h) set initial (omega arith))
