-- Neither the first fault of writing nor the locals that are named depend on locations.
use Rattle.std.proofs.Common.{◌≡◌, ℕ, List, [], ◌∷◌, ◌++◌, map, Bool, true, false, Result, Ok, Err, refl, sym, ap, ◌∙◌}
use Rattle.std.proofs.lemmas.List.{map-append}
use Rattle.wasm_numbers.specs.Results.{◌>>=◌, gather}
use Rattle.wasm_operators.specs.Operations.{RawOperation}
use Rattle.wasm_body.specs.declared.error.EmitError.{EmitError}
use Rattle.wasm_body.specs.Control.{Action, Control, Does, Opens, Else, Catch, CatchAll, End, Delegate, Marked, with_control}
use Rattle.wasm_body.specs.Translation.{translate, Located, at_location}
use Rattle.wasm_body.specs.Naming.{NamedOperation}
use Rattle.wasm_body.specs.NormalForm.{Typing, Fate, Drops, Stays, MakesUnreachable, fate}
use Rattle.wasm_body.specs.Bytes.{Numbers}
use Rattle.wasm_body.proofs.Translation.Outcomes.{outcome, Alike, alike_then, alike_last}
use Rattle.wasm_body.specs.Flat.{Named, Mode, Live, Waits, Unreachable, Open, Dropped, Kept, FlatState, flat_state, first_state, innermost, around, needs_else, plain_written, else_written, end_written, live_written, after_else, waiting_written, ending_written, unreachable_written, written_in, written_at, mode_after, mode_of_else, parted, closed_state, after_live, after_unreachable, after_in, after, flat, renumbering, sequence_type, numbered_at_location, unreachability_after, own_locals, live_locals, locals_read}
use Rattle.wasm_body.specs.FlatLaws.{without_location, FaultsAnywhere, LocalsAnywhere}

-- ---- at the location 0

abbrev moved : Named → Named
moved a = at_location a.op 0

abbrev map_mark : Marked Named → Marked Named
map_mark x = with_control (moved x.shown) x.control

abbrev still : Mode → Mode
still Live = Live
still (Waits l) = Waits 0
still Unreachable = Unreachable

abbrev forgotten : FlatState → FlatState
forgotten s = flat_state (still s.mode) s.sequences

-- ---- what is written

plain_bare : (f : Fate) (a : Named) (action : Action) → map without_location (plain_written f a action) ≡ map without_location (plain_written f (moved a) action)
plain_bare Drops a action = refl
plain_bare Stays a action = refl
plain_bare MakesUnreachable a action = refl

else_bare : (needed : Bool) (l : ℕ) → map without_location (else_written needed l) ≡ map without_location (else_written needed 0)
else_bare true l = refl
else_bare false l = refl

end_bare : (needed : Bool) (l : ℕ) → map without_location (end_written needed l) ≡ map without_location (end_written needed 0)
end_bare true l = refl
end_bare false l = refl

live_bare : (needed : Bool) (c : Control) (a : Named) → map without_location (live_written needed c a) ≡ map without_location (live_written needed c (moved a))
live_bare needed (Does action) a = plain_bare (fate action) a action
live_bare needed (Opens construct) a = refl
live_bare needed Else a = else_bare needed a.location
live_bare needed (Catch t) a = refl
live_bare needed CatchAll a = refl
live_bare needed End a = end_bare needed a.location
live_bare needed (Delegate n) a = refl

waiting_plain : (f : Fate) (l : ℕ) (a : Named) (action : Action) → map without_location (after_else l (plain_written f a action)) ≡ map without_location (after_else 0 (plain_written f (moved a) action))
waiting_plain Drops l a action = refl
waiting_plain Stays l a action = refl
waiting_plain MakesUnreachable l a action = refl

waiting_bare : (l : ℕ) (c : Control) (a : Named) → map without_location (waiting_written l c a) ≡ map without_location (waiting_written 0 c (moved a))
waiting_bare l (Does action) a = waiting_plain (fate action) l a action
waiting_bare l (Opens construct) a = refl
waiting_bare l Else a = refl
waiting_bare l (Catch t) a = refl
waiting_bare l CatchAll a = refl
waiting_bare l End a = refl
waiting_bare l (Delegate n) a = refl

ending_bare : (o : Open) (c : Control) (a : Named) → map without_location (ending_written o c a) ≡ map without_location (ending_written o c (moved a))
ending_bare Dropped c a = refl
ending_bare (Kept needed) c a = live_bare needed c a

unreachable_bare : (o : Open) (c : Control) (a : Named) → map without_location (unreachable_written o c a) ≡ map without_location (unreachable_written o c (moved a))
unreachable_bare o (Does action) a = refl
unreachable_bare o (Opens construct) a = refl
unreachable_bare o Else a = ending_bare o Else a
unreachable_bare o (Catch t) a = ending_bare o (Catch t) a
unreachable_bare o CatchAll a = ending_bare o CatchAll a
unreachable_bare o End a = ending_bare o End a
unreachable_bare o (Delegate n) a = ending_bare o (Delegate n) a

in_bare : (m : Mode) (o : Open) (c : Control) (a : Named) → map without_location (written_in m o c a) ≡ map without_location (written_in (still m) o c (moved a))
in_bare Live o c a = live_bare (needs_else o) c a
in_bare (Waits l) o c a = waiting_bare l c a
in_bare Unreachable o c a = unreachable_bare o c a

-- ---- the state

module _ (balanced : NamedOperation → Bool) where
  still_after : (f : Fate) (m : Mode) → still (mode_after f m) ≡ still (mode_after f (still m))
  still_after Drops Live = refl
  still_after Drops (Waits l) = refl
  still_after Drops Unreachable = refl
  still_after Stays m = refl
  still_after MakesUnreachable m = refl

  still_else : (needed : Bool) (l : ℕ) → still (mode_of_else needed l) ≡ still (mode_of_else needed 0)
  still_else true l = refl
  still_else false l = refl

  live_forgotten : (m : Mode) (os : List Open) (c : Control) (a : Named) → forgotten (after_live balanced m os c a) ≡ forgotten (after_live balanced (still m) os c (moved a))
  live_forgotten m os (Does action) a = ap (λ k. flat_state k os) (still_after (fate action) m)
  live_forgotten m os (Opens construct) a = refl
  live_forgotten m os Else a = ap (λ k. flat_state k (Kept false ∷ around os)) (still_else (needs_else (innermost os)) a.location)
  live_forgotten m os (Catch t) a = refl
  live_forgotten m os CatchAll a = refl
  live_forgotten m os End a = refl
  live_forgotten m os (Delegate n) a = refl

  parted_forgotten : (o : Open) (os : List Open) (s t : FlatState) → forgotten s ≡ forgotten t → forgotten (parted o os s) ≡ forgotten (parted o os t)
  parted_forgotten Dropped os s t e = refl
  parted_forgotten (Kept needed) os s t e = e

  closed_forgotten : (o : Open) (os : List Open) (s t : FlatState) → forgotten s ≡ forgotten t → forgotten (closed_state o os s) ≡ forgotten (closed_state o os t)
  closed_forgotten Dropped os s t e = refl
  closed_forgotten (Kept needed) os s t e = e

  unreachable_forgotten : (os : List Open) (c : Control) (a : Named) → forgotten (after_unreachable balanced os c a) ≡ forgotten (after_unreachable balanced os c (moved a))
  unreachable_forgotten os (Does action) a = refl
  unreachable_forgotten os (Opens construct) a = refl
  unreachable_forgotten os Else a = parted_forgotten (innermost os) os (after_live balanced Live os Else a) (after_live balanced Live os Else (moved a)) (live_forgotten Live os Else a)
  unreachable_forgotten os (Catch t) a = refl
  unreachable_forgotten os CatchAll a = refl
  unreachable_forgotten os End a = refl
  unreachable_forgotten os (Delegate n) a = refl

  in_forgotten : (m : Mode) (os : List Open) (c : Control) (a : Named) → forgotten (after_in balanced m os c a) ≡ forgotten (after_in balanced (still m) os c (moved a))
  in_forgotten Live os c a = live_forgotten Live os c a
  in_forgotten (Waits l) os c a = live_forgotten (Waits l) os c a
  in_forgotten Unreachable os c a = unreachable_forgotten os c a

  -- ---- all operators

  same_written : (s t : FlatState) → forgotten s ≡ forgotten t → (x y : Marked Named) → without_location x ≡ without_location y → map without_location (written_at s x) ≡ map without_location (written_at t y)
  same_written s t e x y d =
      in_bare s.mode (innermost s.sequences) x.control x.shown
      ∙ (ap (λ r. map without_location (written_at r (map_mark x))) e
      ∙ (ap (λ (z : NamedOperation × Control). map without_location (written_at (forgotten t) (with_control (at_location z.0 0) z.1))) d
      ∙ sym (in_bare t.mode (innermost t.sequences) y.control y.shown)))

  same_after : (s t : FlatState) → forgotten s ≡ forgotten t → (x y : Marked Named) → without_location x ≡ without_location y → forgotten (after balanced s x) ≡ forgotten (after balanced t y)
  same_after s t e x y d =
      in_forgotten s.mode s.sequences x.control x.shown
      ∙ (ap (λ r. forgotten (after balanced r (map_mark x))) e
      ∙ (ap (λ (z : NamedOperation × Control). forgotten (after balanced (forgotten t) (with_control (at_location z.0 0) z.1))) d
      ∙ sym (in_forgotten t.mode t.sequences y.control y.shown)))

  same_flat : (xs ys : List (Marked Named)) (s t : FlatState) → forgotten s ≡ forgotten t → map without_location xs ≡ map without_location ys → map without_location (flat balanced s xs) ≡ map without_location (flat balanced t ys)
  same_flat [] [] s t e d = refl
  same_flat [] (y ∷ ys) s t e d = absurd cc
  same_flat (x ∷ xs) [] s t e d = absurd cc
  same_flat (x ∷ xs) (y ∷ ys) s t e d =
      let first : without_location x ≡ without_location y = cc in
      let others : map without_location xs ≡ map without_location ys = cc in
      map-append without_location (written_at s x) (flat balanced (after balanced s x) xs)
      ∙ (ap (λ l. l ++ map without_location (flat balanced (after balanced s x) xs)) (same_written s t e x y first)
      ∙ (ap (λ l. map without_location (written_at t y) ++ l) (same_flat xs ys (after balanced s x) (after balanced t y) (same_after s t e x y first) others)
      ∙ sym (map-append without_location (written_at t y) (flat balanced (after balanced t y) ys))))

-- ---- the locals that are named

own_bare : (c : Control) (a : Named) → own_locals c a ≡ own_locals c (moved a)
own_bare (Does action) a = refl
own_bare (Opens construct) a = refl
own_bare Else a = refl
own_bare (Catch t) a = refl
own_bare CatchAll a = refl
own_bare End a = refl
own_bare (Delegate n) a = refl

locals_bare : (unreachable : Bool) (x : Marked Named) → live_locals unreachable x ≡ live_locals unreachable (map_mark x)
locals_bare true x = refl
locals_bare false x = own_bare x.control x.shown

pub locals_anywhere : LocalsAnywhere
locals_anywhere [] [] s d = refl
locals_anywhere [] (y ∷ ys) s d = absurd cc
locals_anywhere (x ∷ xs) [] s d = absurd cc
locals_anywhere (x ∷ xs) (y ∷ ys) s d =
    let first : without_location x ≡ without_location y = cc in
    let others : map without_location xs ≡ map without_location ys = cc in
    let here : live_locals s.unreachable x ≡ live_locals s.unreachable y =
    locals_bare s.unreachable x ∙ (ap (λ (z : NamedOperation × Control). live_locals s.unreachable (with_control (at_location z.0 0) z.1)) first ∙ sym (locals_bare s.unreachable y)) in
    ap (λ l. l ++ locals_read (unreachability_after s x.control) xs) here
    ∙ (ap (λ (z : NamedOperation × Control). live_locals s.unreachable y ++ locals_read (unreachability_after s z.1) xs) first
    ∙ ap (λ l. live_locals s.unreachable y ++ l) (locals_anywhere xs ys (unreachability_after s y.control) others))

-- ---- with numbers

module _ (to : Numbers) (m : Typing) where
  -- an operator without its location
  abbrev numbered_bare : NamedOperation × Control → Result RawOperation EmitError
  numbered_bare z = translate (renumbering to (sequence_type m z.1 z.0)) z.0

  one_alike : (x : Marked Named) → Alike (numbered_at_location to m x) (numbered_bare (without_location x))
  one_alike x = by_result (numbered_bare (without_location x))
    where
      by_result : (r : Result RawOperation EmitError) → Alike {A = Located RawOperation} (let s : Result (Located RawOperation) EmitError = r >>= (λ o. Ok (at_location o x.shown.location)) in s) r
      by_result (Ok o) = refl
      by_result (Err e) = refl

  all_alike : (xs : List (Marked Named)) → Alike (gather (map (numbered_at_location to m) xs)) (gather (map numbered_bare (map without_location xs)))
  all_alike [] = refl
  all_alike (x ∷ xs) =
      let rest = gather (map (numbered_at_location to m) xs) in
      let others = gather (map numbered_bare (map without_location xs)) in
      alike_then (numbered_at_location to m x) (numbered_bare (without_location x)) (λ y. rest >>= λ ys. Ok (y ∷ ys)) (λ z. others >>= λ zs. Ok (z ∷ zs)) (one_alike x)
      (λ y z. alike_last rest others (λ ys. y ∷ ys) (λ zs. z ∷ zs) (all_alike xs))

fault_too : {A B E : Type 0} (r : Result A E) (s : Result B E) (e : E) → Alike r s → r ≡ Err e → s ≡ Err e
fault_too (Ok x) s e a h = absurd cc
fault_too (Err f) (Ok y) e a h = absurd cc
fault_too (Err f) (Err d) e a h = let one : f ≡ e = cc h in let two : f ≡ d = cc a in ap Err (sym two ∙ one)

pub faults_anywhere : FaultsAnywhere
faults_anywhere to m balanced xs ys d e h =
    let ws = flat balanced first_state xs in
    let zs = flat balanced first_state ys in
    let same : map without_location ws ≡ map without_location zs = same_flat balanced xs ys first_state first_state refl d in
    fault_too (gather (map (numbered_at_location to m) ws)) (gather (map (numbered_at_location to m) zs)) e
    (all_alike to m ws ∙ (ap (λ l. outcome (gather (map (numbered_bare to m) l))) same ∙ sym (all_alike to m zs))) h
