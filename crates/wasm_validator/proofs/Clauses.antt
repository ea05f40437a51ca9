-- The clauses of `try_table`.
use Rattle.std.proofs.Common.{◌≡◌, ℕ, ◌+◌, List, [], ◌∷◌, ◌++◌, length, reverse, Bool, true, false, Option, Some, None, Ok, Err, refl, sym, ap, ◌∙◌, arith, eq-eqb}
use Rattle.std.specs.Prelude.{nat_eq, ◌&&◌, if◌then◌else◌}
use Rattle.std.proofs.lemmas.List.{reverse-append}
use Rattle.std.proofs.lemmas.Bool.Decides.{nat_tests}
use Rattle.wasm_types.specs.declared.val_type.ValType.{ValType}
use Rattle.walrus_ir.specs.Types.{Signature}
use Rattle.wasm_numbers.specs.Results.{◌>>=◌, each}
use Rattle.wasm_operators.specs.declared.types.BlockType.{BlockType}
use Rattle.wasm_operators.specs.declared.types.Opcode.TheVariants.{Byte}
use Rattle.wasm_operators.specs.Operations.{CatchClause, Immediate, block, clauses, operation}
use Rattle.wasm_body.specs.Translation.{translate_tag, translate_clause}
use Rattle.wasm_body.specs.Validity as algorithm
use Rattle.wasm_body.specs.Validity.{ControlFrame, Stacks, Checked, refused, demand, caught, handed}
use Rattle.wasm_body.specs.ValidityLaws.{KnownOperand}
use Rattle.wasm_typing.specs.Contexts.{OperandContext}
use Rattle.wasm_typing.specs.Matching.{matches_value, matches_values}
use Rattle.wasm_typing.specs.StandardRules.{standard_rules}
use Rattle.wasm_context.specs.Validation.{BodyContext, BodyState, typing_in, named_block_type, tag_signature, checked_index, raw_naming, named_step, raw_step}
use Rattle.wasm_validator.specs.declared.frame.Opened.TheVariants as opened
use Rattle.wasm_validator.specs.declared.state.Validator.{Validator}
use Rattle.wasm_validator.specs.States.{Known, of_value}
use Rattle.wasm_validator.specs.Steps.{setting_of, stacks_of, inner_of, open_state, pop_each_in, push_each_in, pop_control_in}
use Rattle.wasm_validator.specs.Core.{open_frames, begin_in, tag_there, HandsOn, with_caught, clause_step, clauses_step, begins_try_table}
use Rattle.wasm_validator.proofs.StepResults.{refuses}

-- ---- lists of types that match, from both ends

and_true : (b : Bool) → (b && true) ≡ b
and_true true = refl
and_true false = refl

and_false : (b : Bool) → (b && false) ≡ false
and_false true = refl
and_false false = refl

and_swapped : (a b : Bool) → (a && b) ≡ (b && a)
and_swapped true b = sym (and_true b)
and_swapped false b = sym (and_false b)

and_nested : (a b c : Bool) → (a && (b && c)) ≡ ((a && b) && c)
and_nested true b c = refl
and_nested false b c = refl

none_against : (c : OperandContext) (us : List (ValType ℕ)) (u : ValType ℕ) → matches_values c [] (us ++ u ∷ []) ≡ false
none_against c [] u = refl
none_against c (v ∷ us) u = refl

pub against_none : (c : OperandContext) (ts : List (ValType ℕ)) (t : ValType ℕ) → matches_values c (ts ++ t ∷ []) [] ≡ false
against_none c [] t = refl
against_none c (v ∷ ts) t = refl

pub matches_last : (c : OperandContext) (ts us : List (ValType ℕ)) (t u : ValType ℕ) → matches_values c (ts ++ t ∷ []) (us ++ u ∷ []) ≡ (matches_values c ts us && matches_value c t u)
matches_last c [] [] t u = and_true (matches_value c t u)
matches_last c [] (v ∷ us) t u = ap (λ b. matches_value c t v && b) (none_against c us u) ∙ and_false (matches_value c t v)
matches_last c (v ∷ ts) [] t u = ap (λ b. matches_value c v u && b) (against_none c ts t) ∙ and_false (matches_value c v u)
matches_last c (v ∷ ts) (w ∷ us) t u =
    ap (λ b. matches_value c v w && b) (matches_last c ts us t u) ∙ and_nested (matches_value c v w) (matches_values c ts us) (matches_value c t u)

last_of : (ts : List (ValType ℕ)) (t : ValType ℕ) → reverse (t ∷ ts) ≡ reverse ts ++ t ∷ []
last_of ts t = reverse-append (t ∷ []) ts

matches_reversed : (c : OperandContext) (ts us : List (ValType ℕ)) → matches_values c (reverse ts) (reverse us) ≡ matches_values c ts us
matches_reversed c [] [] = refl
matches_reversed c [] (u ∷ us) = ap (matches_values c []) (last_of us u) ∙ none_against c (reverse us) u
matches_reversed c (t ∷ ts) [] = ap (λ l. matches_values c l []) (last_of ts t) ∙ against_none c (reverse ts) t
matches_reversed c (t ∷ ts) (u ∷ us) =
    ap (λ l. matches_values c l (reverse (u ∷ us))) (last_of ts t)
    ∙ ap (matches_values c (reverse ts ++ t ∷ [])) (last_of us u)
    ∙ matches_last c (reverse ts) (reverse us) t u
    ∙ ap (λ b. b && matches_value c t u) (matches_reversed c ts us)
    ∙ and_swapped (matches_values c ts us) (matches_value c t u)

-- ---- what a clause hands to its label

-- types, the last first, as operands
abbrev known_list : List (ValType ℕ) → List Known → List Known
known_list [] xs = xs
known_list (t ∷ ts) xs = of_value t ∷ known_list ts xs

known_last : (ts : List (ValType ℕ)) (t : ValType ℕ) (xs : List Known) → known_list (ts ++ t ∷ []) xs ≡ known_list ts (of_value t ∷ xs)
known_last [] t xs = refl
known_last (u ∷ ts) t xs = ap (λ l. of_value u ∷ l) (known_last ts t xs)

length_known : (ts : List (ValType ℕ)) (xs : List Known) → length (known_list ts xs) ≡ length ts + length xs
length_known [] xs = omega arith
length_known (t ∷ ts) xs = let h = length_known ts xs in omega arith

by_demand : {Y : Type 0} (test : Bool) (y : Y) (k : Checked (Unit {0})) → ((demand test >>= λ u. Ok y) >>= λ t. k) ≡ (demand test >>= λ u. k)
by_demand true y k = refl
by_demand false y k = refl

abbrev clause_by : Bool → ℕ → Option ℕ → CatchClause ℕ
clause_by r l tag = record { by_reference = r; tag = tag; label = l }

abbrev there : Checked Signature → Checked (Unit {0})
there a = a >>= λ s. Ok tt

by_signature : (a : Checked Signature) (r : Bool) (l n : ℕ)
    → (((a >>= λ s. Ok n) >>= λ m. Ok (Some m)) >>= λ tag. Ok (clause_by r l tag)) ≡ (there a >>= λ u. Ok (clause_by r l (Some n)))
by_signature (Err e) r l n = refl
by_signature (Ok s) r l n = refl

module _ (b : BodyContext) where
  pushed : (ts : List (ValType ℕ)) (xs : List Known) → push_each_in b ts xs ≡ known_list (reverse ts) xs
  pushed [] xs = refl
  pushed (t ∷ ts) xs = pushed ts (of_value t ∷ xs) ∙ sym (ap (λ l. known_list l xs) (last_of ts t) ∙ known_last (reverse ts) t xs)

  module _ (f : ControlFrame) (xs : List Known) (reached : f.unreachable ≡ false) (height : f.height ≡ length xs) where
    abbrev height_test : List Known → Checked (Unit {0})
    height_test ys = demand (nat_eq (length ys) f.height)

    abbrev closing : List (ValType ℕ) → List Known → Checked (Unit {0})
    closing us zs = pop_each_in b f us zs >>= height_test

    abbrev by_height : ValType ℕ → List Known → Bool → Checked (List Known)
    by_height u zs test = if test then (demand f.unreachable >>= λ v. Ok zs) else algorithm.fitting (typing_in b) (standard_rules b.operands) u zs

    over : (t : ValType ℕ) (ts : List (ValType ℕ)) → nat_eq (length (known_list (t ∷ ts) xs)) f.height ≡ false
    over t ts = let l = length_known ts xs in grind (arith, nat_tests)

    abbrev tested : List (ValType ℕ) → List (ValType ℕ) → Bool → Checked (Unit {0})
    tested ts us test = ((demand test >>= λ v. Ok (known_list ts xs)) >>= pop_each_in b f us) >>= height_test

    by_test : (ts us : List (ValType ℕ)) (test : Bool) → closing us (known_list ts xs) ≡ demand (matches_values b.operands ts us)
        → tested ts us test ≡ demand (test && matches_values b.operands ts us)
    by_test ts us true h = h
    by_test ts us false h = refl

    pops_known : (ts us : List (ValType ℕ)) → closing us (known_list ts xs) ≡ demand (matches_values b.operands ts us)
    pops_known [] [] = ap demand (eq-eqb (length xs) f.height (sym height))
    pops_known [] (u ∷ us) =
        ap (λ test. (by_height u xs test >>= pop_each_in b f us) >>= height_test) (eq-eqb (length xs) f.height (sym height))
        ∙ ap (λ test. ((demand test >>= λ v. Ok xs) >>= pop_each_in b f us) >>= height_test) reached
    pops_known (t ∷ ts) [] = ap demand (over t ts)
    pops_known (t ∷ ts) (u ∷ us) =
        ap (λ test. (by_height u (known_list (t ∷ ts) xs) test >>= pop_each_in b f us) >>= height_test) (over t ts)
        ∙ by_test ts us (matches_value b.operands t u) (pops_known ts us)

  -- the frame of a clause
  abbrev clause_frame : Stacks KnownOperand → (ts us : List (ValType ℕ)) → ControlFrame
  clause_frame s ts us = algorithm.control (typing_in b) (standard_rules b.operands) s algorithm.OfCatch ts us

  abbrev closes_clause : Stacks KnownOperand → (ts us : List (ValType ℕ)) → Checked (Stacks KnownOperand)
  closes_clause s ts us = pop_control_in b (clause_frame s ts us) (record s { operands = push_each_in b ts s.operands })

  -- a result of which only is known whether it is refused
  then_same : {X Y : Type 0} (a : Checked X) (test : X → Bool) (g : X → Y) (k : Checked (Unit {0}))
      → ((a >>= λ x. demand (test x) >>= λ u. Ok (g x)) >>= λ t. k) ≡ ((a >>= λ x. demand (test x)) >>= λ u. k)
  then_same (Err e) test g k = refl
  then_same (Ok x) test g k = by_demand (test x) (g x) k

  closes_is : (s : Stacks KnownOperand) (ts us : List (ValType ℕ)) (k : Checked (Unit {0})) → (closes_clause s ts us >>= λ t. k) ≡ (demand (matches_values b.operands ts us) >>= λ u. k)
  closes_is s ts us k =
      let f = clause_frame s ts us in
      then_same (pop_each_in b f (reverse us) (push_each_in b ts s.operands)) (λ xs. nat_eq (length xs) f.height) (λ xs. record { operands = xs; initialised = algorithm.up_to f.locals_height s.initialised }) k
      ∙ ap (λ zs. (pop_each_in b f (reverse us) zs >>= λ xs. demand (nat_eq (length xs) f.height)) >>= λ u. k) (pushed ts s.operands)
      ∙ ap (λ a. a >>= λ u. k) (pops_known f s.operands refl refl (reverse ts) (reverse us) ∙ ap demand (matches_reversed b.operands ts us))

  -- ---- all clauses

  abbrev hands_in : List ControlFrame → CatchClause ℕ → Checked (Unit {0})
  hands_in fs k = algorithm.labelled_frame fs k.label >>= λ d. demand (matches_values b.operands (handed (typing_in b) k) (algorithm.label_types d))

  abbrev all_hand_in : List ControlFrame → List (CatchClause ℕ) → Checked (Unit {0})
  all_hand_in fs [] = Ok tt
  all_hand_in fs (k ∷ ks) = hands_in fs k >>= λ u. all_hand_in fs ks

  abbrev tags_there : List (CatchClause ℕ) → Checked (Unit {0})
  tags_there [] = Ok tt
  tags_there (k ∷ ks) = tag_there b k.tag >>= λ u. tags_there ks

  by_frame : (s : Stacks KnownOperand) (ts : List (ValType ℕ)) (a : Checked ControlFrame) (k l : Checked (Unit {0})) → k ≡ l
      → (a >>= λ d. closes_clause s ts (algorithm.label_types d) >>= λ t. k) ≡ ((a >>= λ d. demand (matches_values b.operands ts (algorithm.label_types d))) >>= λ u. l)
  by_frame s ts (Err e) k l h = refl
  by_frame s ts (Ok d) k l h =
      closes_is s ts (algorithm.label_types d) k ∙ ap (λ z. demand (matches_values b.operands ts (algorithm.label_types d)) >>= λ u. z) h

  pub hand_is : (fs : List ControlFrame) (s : Stacks KnownOperand) (ks : List (CatchClause ℕ)) → algorithm.hand (typing_in b) (standard_rules b.operands) fs s ks ≡ all_hand_in fs ks
  hand_is fs s [] = refl
  hand_is fs s (k ∷ ks) =
      by_frame s (handed (typing_in b) k) (algorithm.labelled_frame fs k.label) (algorithm.hand (typing_in b) (standard_rules b.operands) fs s ks) (all_hand_in fs ks) (hand_is fs s ks)

  both_orders : (a h t hs : Checked (Unit {0})) → ((a >>= λ u. t) >>= λ u. (h >>= λ v. hs)) ≡ ((a >>= λ u. h) >>= λ u. (t >>= λ v. hs))
  both_orders (Err refused) h t hs = refl
  both_orders (Ok u) (Err refused) (Err refused) hs = refl
  both_orders (Ok u) (Err refused) (Ok v) hs = refl
  both_orders (Ok u) (Ok w) (Err refused) hs = refl
  both_orders (Ok u) (Ok w) (Ok v) hs = refl

  pub clauses_are : (fs : List ControlFrame) (ks : List (CatchClause ℕ)) → (tags_there ks >>= λ u. all_hand_in fs ks) ≡ clauses_step b fs ks
  clauses_are fs [] = refl
  clauses_are fs (k ∷ ks) =
      both_orders (tag_there b k.tag) (hands_in fs k) (tags_there ks) (all_hand_in fs ks)
      ∙ ap (λ z. (tag_there b k.tag >>= λ u. hands_in fs k) >>= λ u. z) (clauses_are fs ks)

  -- ---- names

  named_tag : (r : Bool) (l : ℕ) (o : Option ℕ)
      → (translate_tag (checked_index b) o >>= λ tag. Ok (clause_by r l tag)) ≡ (tag_there b o >>= λ u. Ok (clause_by r l o))
  named_tag r l None = refl
  named_tag r l (Some n) = by_signature (tag_signature b n) r l n

  named_row : (a c : Checked (Unit {0})) (k : CatchClause ℕ) (ks : List (CatchClause ℕ))
      → ((a >>= λ u. Ok k) >>= λ y. (c >>= λ u. Ok ks) >>= λ ys. Ok (y ∷ ys)) ≡ ((a >>= λ u. c) >>= λ u. Ok (k ∷ ks))
  named_row (Err e) c k ks = refl
  named_row (Ok u) (Err e) k ks = refl
  named_row (Ok u) (Ok v) k ks = refl

  named_clauses : (ks : List (CatchClause ℕ)) → each (translate_clause (raw_naming b)) ks ≡ (tags_there ks >>= λ u. Ok ks)
  named_clauses [] = refl
  named_clauses (k ∷ ks) =
      ap (λ a. a >>= λ y. each (translate_clause (raw_naming b)) ks >>= λ ys. Ok (y ∷ ys)) (named_tag k.by_reference k.label k.tag)
      ∙ ap (λ a. (tag_there b k.tag >>= λ u. Ok k) >>= λ y. a >>= λ ys. Ok (y ∷ ys)) (named_clauses ks)
      ∙ named_row (tag_there b k.tag) (tags_there ks) k ks

-- ---- the operator

abbrev with_type : Signature → Immediate ℕ Signature
with_type s = block s

abbrev with_clauses : List (CatchClause ℕ) → Immediate ℕ Signature
with_clauses ks = clauses ks

module _ (v : Validator) (t : BlockType) (ks : List (CatchClause ℕ)) where
  abbrev with_named : Checked Signature → Checked (List (CatchClause ℕ)) → Checked BodyState
  with_named nb ds =
      (((nb >>= λ s. Ok (with_type s)) >>= λ y. ((ds >>= λ es. Ok (with_clauses es)) >>= λ z. Ok (z ∷ [])) >>= λ ys. Ok (y ∷ ys)) >>= λ is. Ok (operation (Byte 0x1f) is))
      >>= λ n. named_step (setting_of v) n (open_state v)

  swapped : {X Y : Type 0} (a : Checked X) (h : Checked (Unit {0})) (k : X → Checked Y) → (a >>= λ x. h >>= λ u. k x) ≡ (h >>= λ u. a >>= k)
  swapped a (Ok u) k = refl
  swapped a (Err refused) k = refuses a (λ x. Err refused) (λ x. refl)

  abbrev popped : Signature → Checked (Stacks KnownOperand)
  popped s = algorithm.popping (typing_in (setting_of v)) (standard_rules (setting_of v).operands) (inner_of v) s.parameters (stacks_of v)

  abbrev pushing : Signature → Stacks KnownOperand → Checked BodyState
  pushing s u = Ok (algorithm.push_control (typing_in (setting_of v)) (standard_rules (setting_of v).operands) algorithm.OfTryTable s.parameters s.results u (open_frames v))

  -- a clause is tested against what it hands on, whatever else is on the stack
  any_stack : (s : Signature) (a : Checked (Stacks KnownOperand))
      → (a >>= λ u. algorithm.hand (typing_in (setting_of v)) (standard_rules (setting_of v).operands) (open_frames v) u ks >>= λ w. pushing s u)
      ≡ (a >>= λ u. all_hand_in (setting_of v) (open_frames v) ks >>= λ w. pushing s u)
  any_stack s (Err e) = refl
  any_stack s (Ok u) = ap (λ z. z >>= λ w. pushing s u) (hand_is (setting_of v) (open_frames v) u ks)

  by_tags : (s : Signature) (tags : Checked (Unit {0}))
      → with_named (Ok s) (tags >>= λ u. Ok ks) ≡ ((tags >>= λ u. all_hand_in (setting_of v) (open_frames v) ks) >>= λ u. begin_in v opened.TryTable s)
  by_tags s (Err refused) = refl
  by_tags s (Ok u) = any_stack s (popped s) ∙ swapped (popped s) (all_hand_in (setting_of v) (open_frames v) ks) (pushing s)

  by_block : (nb : Checked Signature)
      → with_named nb (tags_there (setting_of v) ks >>= λ u. Ok ks) ≡ (nb >>= λ s. clauses_step (setting_of v) (open_frames v) ks >>= λ u. begin_in v opened.TryTable s)
  by_block (Err e) = refl
  by_block (Ok s) =
      by_tags s (tags_there (setting_of v) ks)
      ∙ ap (λ a. a >>= λ u. begin_in v opened.TryTable s) (clauses_are (setting_of v) (open_frames v) ks)

  pub try_table_is : raw_step (setting_of v) (operation (Byte 0x1f) (block t ∷ clauses ks ∷ [])) (open_state v) ≡ begins_try_table v t ks
  try_table_is = ap (with_named (named_block_type (setting_of v) t)) (named_clauses (setting_of v) ks) ∙ by_block (named_block_type (setting_of v) t)

-- ---- one clause, as the code tests it

pub clause_done : (v : Validator) (k : CatchClause ℕ) (ts : List (ValType ℕ)) (d : ControlFrame) (us : List (ValType ℕ)) (test : Bool) → HandsOn (setting_of v) k.tag ts
    → algorithm.labelled_frame (open_frames v) k.label ≡ Ok d → algorithm.label_types d ≡ us → matches_values (setting_of v).operands (with_caught k.by_reference ts) us ≡ test
    → clause_step (setting_of v) (open_frames v) k ≡ demand test
clause_done v k ts d us test has at types h =
    let tests : ControlFrame → Checked (Unit {0}) = λ f. demand (matches_values (setting_of v).operands (handed (typing_in (setting_of v)) k) (algorithm.label_types f)) in
    ap (λ a. a >>= λ u. algorithm.labelled_frame (open_frames v) k.label >>= tests) has.0
    ∙ ap (λ a. a >>= tests) at
    ∙ ap (λ l. demand (matches_values (setting_of v).operands (handed (typing_in (setting_of v)) k) l)) types
    ∙ ap (λ l. demand (matches_values (setting_of v).operands (with_caught k.by_reference l) us)) has.1
    ∙ ap demand h

pub clause_untagged : (v : Validator) (k : CatchClause ℕ) → tag_there (setting_of v) k.tag ≡ Err refused → clause_step (setting_of v) (open_frames v) k ≡ Err refused
clause_untagged v k h =
    ap (λ a. a >>= λ u. algorithm.labelled_frame (open_frames v) k.label >>= λ f. demand (matches_values (setting_of v).operands (handed (typing_in (setting_of v)) k) (algorithm.label_types f))) h

pub clause_nowhere : (v : Validator) (k : CatchClause ℕ) (ts : List (ValType ℕ)) → HandsOn (setting_of v) k.tag ts → algorithm.labelled_frame (open_frames v) k.label ≡ Err refused
    → clause_step (setting_of v) (open_frames v) k ≡ Err refused
clause_nowhere v k ts has at =
    let tests : ControlFrame → Checked (Unit {0}) = λ f. demand (matches_values (setting_of v).operands (handed (typing_in (setting_of v)) k) (algorithm.label_types f)) in
    ap (λ a. a >>= λ u. algorithm.labelled_frame (open_frames v) k.label >>= tests) has.0 ∙ ap (λ a. a >>= tests) at

-- ---- types that go to a label

pub goes_both : (c : OperandContext) (ts us before : List (ValType ℕ)) (last : ValType ℕ) (by test : Bool) → by ≡ true → us ≡ before ++ last ∷ [] → matches_values c ts before ≡ true
    → matches_value c caught last ≡ test → matches_values c (with_caught by ts) us ≡ test
goes_both c ts us before last by test is split h k =
    ap (λ b. matches_values c (with_caught b ts) us) is ∙ ap (matches_values c (ts ++ caught ∷ [])) split ∙ matches_last c ts before caught last
    ∙ ap (λ b. b && matches_value c caught last) h ∙ k

pub goes_not : (c : OperandContext) (ts us before : List (ValType ℕ)) (last : ValType ℕ) (by : Bool) → by ≡ true → us ≡ before ++ last ∷ [] → matches_values c ts before ≡ false
    → matches_values c (with_caught by ts) us ≡ false
goes_not c ts us before last by is split h =
    ap (λ b. matches_values c (with_caught b ts) us) is ∙ ap (matches_values c (ts ++ caught ∷ [])) split ∙ matches_last c ts before caught last
    ∙ ap (λ b. b && matches_value c caught last) h

pub goes_none : (c : OperandContext) (ts us : List (ValType ℕ)) (by : Bool) → by ≡ true → us ≡ [] → matches_values c (with_caught by ts) us ≡ false
goes_none c ts us by is split = ap (λ b. matches_values c (with_caught b ts) us) is ∙ ap (matches_values c (ts ++ caught ∷ [])) split ∙ against_none c ts caught
