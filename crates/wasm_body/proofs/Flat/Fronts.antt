-- A front of a body's operators, and one operator more.
use Rattle.std.proofs.Common.{◌≡◌, List, [], ◌∷◌, ◌++◌, map, Bool, Result, Ok, Err, refl, sym, ap, ◌∙◌, append_assoc}
use Rattle.std.proofs.lemmas.List.{append-nil}
use Rattle.wasm_numbers.specs.Results.{◌>>=◌, gather}
use Rattle.wasm_operators.specs.Operations.{RawOperation}
use Rattle.wasm_body.specs.declared.error.EmitError.{EmitError}
use Rattle.wasm_body.specs.Control.{Marked}
use Rattle.wasm_body.specs.Translation.{Located}
use Rattle.wasm_body.specs.Naming.{NamedOperation}
use Rattle.wasm_body.specs.NormalForm.{Typing}
use Rattle.wasm_body.specs.Bytes.{Numbers}
use Rattle.wasm_body.specs.Flat.{Named, FlatState, first_state, written_at, after, flat, state_behind, numbered_at_location, IsWrittenSo, Unreachability, unreachability_after, live_locals, locals_read, unreachability_behind}

-- ---- results of lists

abbrev both : {A E : Type 0} → Result (List A) E → Result (List A) E → Result (List A) E
both g h = g >>= λ xs. h >>= λ ys. Ok (xs ++ ys)

none_more : {A E : Type 0} (h : Result (List A) E) → h ≡ both (Ok []) h
none_more (Ok ys) = refl
none_more (Err e) = refl

one_more : {A E : Type 0} (r : Result A E) (g h : Result (List A) E) → (r >>= λ a. both g h >>= λ cs. Ok (a ∷ cs)) ≡ both (r >>= λ a. g >>= λ xs. Ok (a ∷ xs)) h
one_more (Err e) g h = refl
one_more (Ok a) (Err e) h = refl
one_more (Ok a) (Ok xs) (Err e) = refl
one_more (Ok a) (Ok xs) (Ok ys) = refl

pub gathered : {X A E : Type 0} (f : X → Result A E) (xs ys : List X) → gather (map f (xs ++ ys)) ≡ both (gather (map f xs)) (gather (map f ys))
gathered f [] ys = none_more (gather (map f ys))
gathered f (x ∷ xs) ys = ap (λ r. f x >>= λ a. r >>= λ cs. Ok (a ∷ cs)) (gathered f xs ys) ∙ one_more (f x) (gather (map f xs)) (gather (map f ys))

-- ---- what is written

module _ (balanced : NamedOperation → Bool) where
  pub flat-append : (xs ys : List (Marked Named)) (s : FlatState) → flat balanced s (xs ++ ys) ≡ flat balanced s xs ++ flat balanced (state_behind balanced s xs) ys
  flat-append [] ys s = refl
  flat-append (x ∷ xs) ys s =
      let t = after balanced s x in
      ap (λ l. written_at s x ++ l) (flat-append xs ys t) ∙ sym (append_assoc (written_at s x) (flat balanced t xs) (flat balanced (state_behind balanced t xs) ys))

  pub state-append : (xs ys : List (Marked Named)) (s : FlatState) → state_behind balanced s (xs ++ ys) ≡ state_behind balanced (state_behind balanced s xs) ys
  state-append [] ys s = refl
  state-append (x ∷ xs) ys s = state-append xs ys (after balanced s x)

  module _ (to : Numbers) (m : Typing) where
    abbrev all_numbered : List (Marked Named) → Result (List (Located RawOperation)) EmitError
    all_numbered xs = gather (map (numbered_at_location to m) xs)

    pub begins : IsWrittenSo to m balanced [] first_state []
    begins = record { state_is = refl; written_are = refl }

    module _ (read : List (Marked Named)) (s : FlatState) (written : List (Located RawOperation)) (so : IsWrittenSo to m balanced read s written) (x : Marked Named) where
      -- the operators that are written up to the next one, and after it
      parts : (rest : List (Marked Named)) → all_numbered (flat balanced first_state (read ++ x ∷ rest))
          ≡ both (Ok written) (both (all_numbered (written_at s x)) (all_numbered (flat balanced (after balanced s x) rest)))
      parts rest =
          ap all_numbered (flat-append read (x ∷ rest) first_state)
          ∙ (gathered (numbered_at_location to m) (flat balanced first_state read) (flat balanced (state_behind balanced first_state read) (x ∷ rest))
          ∙ (ap (λ r. both r (all_numbered (flat balanced (state_behind balanced first_state read) (x ∷ rest)))) so.written_are
          ∙ (ap (λ t. both (Ok written) (all_numbered (flat balanced t (x ∷ rest)))) (sym so.state_is)
          ∙ ap (both (Ok written)) (gathered (numbered_at_location to m) (written_at s x) (flat balanced (after balanced s x) rest)))))

      pub continues : (zs : List (Located RawOperation)) → all_numbered (written_at s x) ≡ Ok zs → IsWrittenSo to m balanced (read ++ x ∷ []) (after balanced s x) (written ++ zs)
      continues zs is = record {
        state_is = ap (λ t. after balanced t x) so.state_is ∙ sym (state-append read (x ∷ []) first_state);
        written_are = parts [] ∙ (ap (λ r. both (Ok written) (both r (Ok []))) is ∙ ap (λ l. Ok (written ++ l)) (append-nil zs));
      }

      -- it has a fault, which is that of the whole, whatever comes after it
      pub breaks : (e : EmitError) → all_numbered (written_at s x) ≡ Err e → (rest : List (Marked Named)) → all_numbered (flat balanced first_state (read ++ x ∷ rest)) ≡ Err e
      breaks e is rest = parts rest ∙ ap (λ r. both (Ok written) (both r (all_numbered (flat balanced (after balanced s x) rest)))) is

-- ---- the locals that are named

pub locals-append : (xs ys : List (Marked Named)) (s : Unreachability) → locals_read s (xs ++ ys) ≡ locals_read s xs ++ locals_read (unreachability_behind s xs) ys
locals-append [] ys s = refl
locals-append (x ∷ xs) ys s =
    let t = unreachability_after s x.control in
    ap (λ l. live_locals s.unreachable x ++ l) (locals-append xs ys t) ∙ sym (append_assoc (live_locals s.unreachable x) (locals_read t xs) (locals_read (unreachability_behind t xs) ys))

pub unreachability-append : (xs ys : List (Marked Named)) (s : Unreachability) → unreachability_behind s (xs ++ ys) ≡ unreachability_behind (unreachability_behind s xs) ys
unreachability-append [] ys s = refl
unreachability-append (x ∷ xs) ys s = unreachability-append xs ys (unreachability_after s x.control)
