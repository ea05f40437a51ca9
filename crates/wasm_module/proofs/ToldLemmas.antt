-- What a listener is told, one body after the other.
use Rattle.std.proofs.Common.{◌≡◌, ℕ, Bool, true, false, List, [], ◌∷◌, ◌++◌, refl, sym, subst, ◌∙◌}
use Rattle.wasm_body.specs.Pairs.{Pair}
use Rattle.wasm_module.specs.ToldBodies.{ToldBody, if_needed, IsTold, TellsMore}

module _ {L : Type 0} (records : L → L → ToldBody → Type 0) (needs : L → Bool) where
  -- bodies after others
  pub told_then :
      (before : L) (bs : List ToldBody) (between : L) (others : List ToldBody) (after : L) → IsTold records needs before bs between → IsTold records needs between others after →
      IsTold records needs before (bs ++ others) after
  told_then before [] between others after p q = subst (λ (s : L). IsTold records needs s others after) p q
  told_then before (b ∷ bs) between others after p q = (p.0, p.1, told_then p.0 bs between others after p.2 q)

  -- nothing was told: the state is the same
  pub told_nothing : (s : L) → IsTold records needs s [] s
  told_nothing s = refl

-- the same body
told_at :
    {L : Type 0} (records : L → L → ToldBody → Type 0) (before after : L) (old start other place : ℕ) (given pairs : List Pair) →
    records before after (record { old_start = old; start = start; pairs = given }) → given ≡ pairs → other ≡ old → place ≡ start →
    records before after (record { old_start = other; start = place; pairs = pairs })
told_at {L} records before after old start other place given pairs told is_given is_old is_start =
    let these = subst (λ (l : List Pair). records before after (record { old_start = old; start = start; pairs = l })) is_given told in
    let from_old = subst (λ (n : ℕ). records before after (record { old_start = n; start = start; pairs = pairs })) (sym is_old) these in
    subst (λ (n : ℕ). records before after (record { old_start = other; start = n; pairs = pairs })) (sym is_start) from_old

-- the pairs are looked at only where they are needed
pub needed_same : (needed : Bool) (taken pairs : List Pair) → (needed ≡ true → taken ≡ pairs) → if_needed needed taken ≡ if_needed needed pairs
needed_same true taken pairs same = same refl
needed_same false taken pairs same = refl

-- a body with all of its pairs
pub told_at_once :
    {L : Type 0} (records : L → L → ToldBody → Type 0) (before after : L) (old start other place : ℕ) (needed : Bool) (given taken pairs : List Pair) →
    records before after (record { old_start = old; start = start; pairs = given }) → given ≡ if_needed needed taken → (needed ≡ true → taken ≡ pairs) → other ≡ old → place ≡ start →
    records before after (record { old_start = other; start = place; pairs = if_needed needed pairs })
told_at_once {L} records before after old start other place needed given taken pairs told is_given same is_old is_start =
    let these : given ≡ if_needed needed pairs = is_given ∙ needed_same needed taken pairs same in
    told_at records before after old start other place given (if_needed needed pairs) told these is_old is_start

-- a body with no pairs, and then its pairs
pub told_in_pieces :
    {L : Type 0} (records : L → L → ToldBody → Type 0) (before between after : L) (old start other place : ℕ) (needed : Bool) (pairs : List Pair) →
    records before between (record { old_start = old; start = start; pairs = [] }) → TellsMore records between after old start (if_needed needed pairs) → other ≡ old →
    place ≡ start → records before after (record { old_start = other; start = place; pairs = if_needed needed pairs })
told_in_pieces {L} records before between after old start other place needed pairs first more is_old is_start =
    told_at records before after old start other place (if_needed needed pairs) (if_needed needed pairs) (more before [] first) refl is_old is_start

-- more pairs of a body, of which the sink took them if they are needed
pub more_needed :
    {L : Type 0} (records : L → L → ToldBody → Type 0) (before after : L) (old start other : ℕ) (needed : Bool) (taken pairs : List Pair) →
    TellsMore records before after old start (if_needed needed taken) → (needed ≡ true → taken ≡ pairs) → other ≡ old → TellsMore records before after other start (if_needed needed pairs)
more_needed {L} records before after old start other needed taken pairs more same is_old =
    let these = subst (λ (l : List Pair). TellsMore records before after old start l) (needed_same needed taken pairs same) more in
    subst (λ (n : ℕ). TellsMore records before after n start (if_needed needed pairs)) (sym is_old) these

-- some pairs of a body, which are needed
pub tells_piece :
    {L : Type 0} (records : L → L → ToldBody → Type 0)
    (joins : (a b c : L) (body : ToldBody) (more : List Pair) → records a b body → records b c (record body { pairs = more }) → records a c (record body { pairs = body.pairs ++ more }))
    (before after : L) (old start : ℕ) (needed : Bool) (pairs : List Pair) → needed ≡ true → records before after (record { old_start = old; start = start; pairs = pairs }) →
    TellsMore records before after old start (if_needed needed pairs)
tells_piece {L} records joins before after old start needed pairs are told = λ first given before_them.
    let all = joins first before after (record { old_start = old; start = start; pairs = given }) pairs before_them told in
    subst (λ (n : Bool). records first after (record { old_start = old; start = start; pairs = given ++ if_needed n pairs })) (sym are) all
