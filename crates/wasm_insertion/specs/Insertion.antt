-- Operators inserted into a body: what is inserted changes nothing else of a run. A tool that instruments a body inserts plain operators,
-- such as calls. The operators of the source execute as they do without them, as long as the inserted ones go on. Which operators are
-- executed is what the trace machine says (WebAssembly core specification 3.0, execution, instructions).
use Rattle.std.specs.Prelude.{◌≡◌, ◌⊎◌, ℕ, zero, suc, ◌+◌, ◌≤◌, List, [], ◌∷◌, ◌++◌, map, Bool, true, false, Option}
use Rattle.std.specs.List.{AllByRecursion}
use Rattle.wasm_body.specs.Control.{Action, Nop, Plain, ConditionalBranch, TableBranch, Throw, ThrowRef, TailCall, If, Control, Does, Opens, Marked, with_control, control_of}
use Rattle.wasm_body.specs.SourceTree.{Sequence, Empty, Single, Wrapped, IfThen, IfElse, TryCatch, TryDelegate, Clauses, Ended, Catches, CatchesAll, Wrapper, Body, body_text}
use Rattle.wasm_body.specs.Machine.{Outcome, Go, Trap, Raise, Way, Entry, Tags, Event, Executed, Taken, Ending, Returned, TailCalled, OutcomesOut, Trapped, Mismatch, Run, ends, then, run}
use Rattle.wasm_body.specs.Places.{show_run}
use Rattle.wasm_body.specs.Flat.{Named}
use Rattle.wasm_body.specs.TextLaws.{mark_named, IsNamedBody}

-- ---- insertion

-- What is shown for an operator of a body with inserted operators: it is the source's own, or it is added. `A` and `P` are any two types,
-- so neither can be taken for the other.
pub data Origin (A P : Type 0) : Type 0 where
  Own : (a : A) → Origin A P
  Added : (p : P) → Origin A P

-- The second sequence is the first, with plain operators inserted at any places: before an item, and at the end. An `if` without `else` may
-- get an alternative that has inserted operators alone. All else, also what opens, parts and closes a construct, is the source's.
-- (Structure, instructions: control instructions; and the proposal of legacy exception handling.)
mutual
  pub data Inserted {A P : Type 0} : Sequence A → Sequence (Origin A P) → Type 0 where
    empty : Inserted Empty Empty
    insert : {p : P} {s : Sequence A} {t : Sequence (Origin A P)} → Inserted s t → Inserted s (Single (Added p) Plain t)
    single : {a : A} {action : Action} {r : Sequence A} {r' : Sequence (Origin A P)} → Inserted r r'
        → Inserted (Single a action r) (Single (Own a) action r')
    wrapped : {a e : A} {w : Wrapper} {b r : Sequence A} {b' r' : Sequence (Origin A P)} → Inserted b b' → Inserted r r'
        → Inserted (Wrapped a w b e r) (Wrapped (Own a) w b' (Own e) r')
    if_then : {a e : A} {b r : Sequence A} {b' r' : Sequence (Origin A P)} → Inserted b b' → Inserted r r'
        → Inserted (IfThen a b e r) (IfThen (Own a) b' (Own e) r')
    added_else : {a e : A} {p : P} {b r : Sequence A} {b' c' r' : Sequence (Origin A P)} → Inserted b b' → Inserted Empty c' → Inserted r r'
        → Inserted (IfThen a b e r) (IfElse (Own a) b' (Added p) c' (Own e) r')
    if_else : {a l e : A} {b c r : Sequence A} {b' c' r' : Sequence (Origin A P)} → Inserted b b' → Inserted c c' → Inserted r r'
        → Inserted (IfElse a b l c e r) (IfElse (Own a) b' (Own l) c' (Own e) r')
    try_catch : {a : A} {b r : Sequence A} {cs : Clauses A} {b' r' : Sequence (Origin A P)} {cs' : Clauses (Origin A P)} → Inserted b b'
        → ClausesInserted cs cs' → Inserted r r' → Inserted (TryCatch a b cs r) (TryCatch (Own a) b' cs' r')
    try_delegate : {a e : A} {n : ℕ} {b r : Sequence A} {b' r' : Sequence (Origin A P)} → Inserted b b' → Inserted r r'
        → Inserted (TryDelegate a b e n r) (TryDelegate (Own a) b' (Own e) n r')

  pub data ClausesInserted {A P : Type 0} : Clauses A → Clauses (Origin A P) → Type 0 where
    ended : {e : A} → ClausesInserted (Ended e) (Ended (Own e))
    catches_one : {a : A} {t : ℕ} {b : Sequence A} {cs : Clauses A} {b' : Sequence (Origin A P)} {cs' : Clauses (Origin A P)} → Inserted b b'
        → ClausesInserted cs cs' → ClausesInserted (Catches a t b cs) (Catches (Own a) t b' cs')
    catches_all : {a e : A} {b : Sequence A} {b' : Sequence (Origin A P)} → Inserted b b'
        → ClausesInserted (CatchesAll a b e) (CatchesAll (Own a) b' (Own e))

pub record InsertedBody {A P : Type 0} (b : Body A) (c : Body (Origin A P)) : Type 0 where
  pub sequence : Inserted b.sequence c.sequence
  pub close : Own b.close ≡ c.close

-- ---- outcomes

-- Whether the machine asks for an outcome at an operator: which way to go, or whether it goes on, traps or throws.
abbrev pub asks_outcome : Control → Bool
asks_outcome (Does Plain) = true
asks_outcome (Does (ConditionalBranch n)) = true
asks_outcome (Does (TableBranch targets default)) = true
asks_outcome (Does (Throw tag)) = true
asks_outcome (Does ThrowRef) = true
asks_outcome (Does TailCall) = true
asks_outcome (Opens If) = true
asks_outcome _ = false

-- What is shown for an operator says whether it asks for an outcome. Nothing is said of those that part and close constructs: they have
-- no event.
abbrev pub SaysIfAsks : Bool → Control → Type 0
SaysIfAsks asked (Does action) = asked ≡ asks_outcome (Does action)
SaysIfAsks asked (Opens construct) = asked ≡ asks_outcome (Opens construct)
SaysIfAsks asked _ = Unit {0}

-- the same for each operator of a list
abbrev pub SaysWhatAsks : {A : Type 0} → (asks : A → Bool) → List (Marked A) → Type 0
SaysWhatAsks asks xs = AllByRecursion (λ x. SaysIfAsks (asks x.shown) x.control) xs

-- ---- runs

-- a run of the source, as one of a body with inserted operators
abbrev pub own_run : {A P : Type 0} → Run A → Run (Origin A P)
own_run r = show_run Own r

-- The events of the source's operators. An inserted operator opens no construct, so it catches nothing.
abbrev pub own_events : {A P : Type 0} → List (Event (Origin A P)) → List (Event A)
own_events [] = []
own_events (Executed (Own a) ∷ es) = Executed a ∷ own_events es
own_events (Executed (Added p) ∷ es) = own_events es
own_events (Taken (Own a) i t ∷ es) = Taken a i t ∷ own_events es
own_events (Taken (Added p) i t ∷ es) = own_events es

-- the run without the events of inserted operators
abbrev pub erased : {A P : Type 0} → Run (Origin A P) → Run A
erased r = record { events = own_events r.events; ending = r.ending }

-- With these outcomes the next operator, an added one, doesn't go on: no outcome is left for it, it traps, it throws, or it gets an
-- outcome of another kind than a plain operator asks for. After it throws the run may be any, since a handler of the source may catch the
-- exception.
pub data AddedStops {A P : Type 0} : List Outcome → Run (Origin A P) → Type 0 where
  gets_none : AddedStops [] (ends OutcomesOut)
  traps : {p : P} {os : List Outcome} → AddedStops (Trap ∷ os) (then (Executed (Added p)) (ends Trapped))
  throws : {p : P} {tags : Tags} {os : List Outcome} {r : Run (Origin A P)} → AddedStops (Raise tags ∷ os) (then (Executed (Added p)) r)
  gets_way : {taken : Bool} {os : List Outcome} → AddedStops (Way taken ∷ os) (ends Mismatch)
  gets_entry : {k : ℕ} {os : List Outcome} → AddedStops (Entry k ∷ os) (ends Mismatch)

-- no added operator stops
abbrev pub NeverStops : {A P : Type 0} → List Outcome → Run (Origin A P) → Type 0
NeverStops os r = ⊥

-- The first run, with its outcomes, is the second, with its outcomes, and added operators between its events, each of which gets Go and
-- goes on. If an added operator stops, as `Stop` says, nothing is said from there on. `asks` says which operators of the source ask for an
-- outcome. So the outcomes of the second run are those of the first without those of added operators, one by one.
pub data FollowsSource {A P : Type 0} (asks : A → Bool) (Stop : List Outcome → Run (Origin A P) → Type 0)
    : List Outcome → Run (Origin A P) → List Outcome → Run A → Type 0 where
  -- both end in the same way, whatever outcomes are left over
  alike_ended : {e : Ending} {os' os : List Outcome} → FollowsSource asks Stop os' (ends e) os (ends e)
  -- an operator of the source, which asks for no outcome
  executes : {a : A} {os' os : List Outcome} {r' : Run (Origin A P)} {r : Run A} → asks a ≡ false → FollowsSource asks Stop os' r' os r
      → FollowsSource asks Stop os' (then (Executed (Own a)) r') os (then (Executed a) r)
  -- an operator of the source, which gets the same outcome in both
  executes_with : {a : A} {o : Outcome} {os' os : List Outcome} {r' : Run (Origin A P)} {r : Run A} → asks a ≡ true → FollowsSource asks Stop os' r' os r
      → FollowsSource asks Stop (o ∷ os') (then (Executed (Own a)) r') (o ∷ os) (then (Executed a) r)
  -- a construct of the source catches an exception
  catches : {a : A} {i : ℕ} {t : Option ℕ} {os' os : List Outcome} {r' : Run (Origin A P)} {r : Run A} → FollowsSource asks Stop os' r' os r
      → FollowsSource asks Stop os' (then (Taken (Own a) i t) r') os (then (Taken a i t) r)
  -- an added operator goes on
  goes_on : {p : P} {os' os : List Outcome} {r' : Run (Origin A P)} {r : Run A} → FollowsSource asks Stop os' r' os r
      → FollowsSource asks Stop (Go ∷ os') (then (Executed (Added p)) r') os r
  -- an added operator stops
  stops : {os' os : List Outcome} {r' : Run (Origin A P)} {r : Run A} → Stop os' r' → FollowsSource asks Stop os' r' os r

-- ---- the law

-- Each run of the body with inserted operators is a run of the source, with these operators between its events, up to the first one that
-- stops. Both have the same bound on the turns of loops.
abbrev pub InsertedRuns : (A P : Type 0) → Type 0
InsertedRuns A P =
    (asks : A → Bool) (b : Body A) (c : Body (Origin A P)) → SaysWhatAsks asks (body_text b) → InsertedBody b c → (turns : ℕ) (os' : List Outcome) →
    (os : List Outcome) × FollowsSource asks AddedStops os' (run (body_text c) os' turns) os (run (body_text b) os turns)

-- There are outcomes with which the body with inserted operators runs as the source does, and none of these operators stops.
pub record RunsWith {A P : Type 0} (asks : A → Bool) (c : Body (Origin A P)) (turns : ℕ) (os : List Outcome) (r : Run A) : Type 0 where
  pub outcomes : List Outcome
  pub follows : FollowsSource asks NeverStops outcomes (run (body_text c) outcomes turns) os r
  pub same : erased (run (body_text c) outcomes turns) ≡ r

-- This is so for each run of the source.
abbrev pub SourceRuns : (A P : Type 0) → Type 0
SourceRuns A P =
    (asks : A → Bool) (b : Body A) (c : Body (Origin A P)) → SaysWhatAsks asks (body_text b) → InsertedBody b c → (turns : ℕ) (os : List Outcome) →
    RunsWith asks c turns os (run (body_text b) os turns)

-- The run with inserted operators stops at one of them. Its events up to there are those of a front of the source's run, and added ones.
pub record StopsAt {A P : Type 0} (r' : Run (Origin A P)) (r : Run A) : Type 0 where
  pub front : List (Event (Origin A P))
  pub from_there : Run (Origin A P)
  pub outcomes : List Outcome  -- those that are left there
  pub later : List (Event A)  -- the events of the source from there on
  pub stops : AddedStops outcomes from_there
  pub events : r'.events ≡ front ++ from_there.events
  pub ending : r'.ending ≡ from_there.ending
  pub source : r.events ≡ own_events front ++ later

-- A run that follows one of the source is the same without the events of inserted operators, or it stops at an inserted operator.
abbrev pub SameOrStops : (A P : Type 0) → Type 0
SameOrStops A P =
    (asks : A → Bool) (os' os : List Outcome) (r' : Run (Origin A P)) (r : Run A) → FollowsSource asks AddedStops os' r' os r → (erased r' ≡ r) ⊎ StopsAt r' r

-- ---- metering: before each straight piece of code an added operator charges the cost of the piece

-- After such an operator the next one is executed, unless it traps or throws.
abbrev pub goes_straight : Action → Bool
goes_straight Nop = true
goes_straight Plain = true
goes_straight _ = false

-- the cost of what comes after an operator in the same piece, if something does
abbrev pub rest_of_piece : Bool → ℕ → ℕ
rest_of_piece true n = n
rest_of_piece false n = 0

-- The cost of the straight piece with which a sequence begins: up to the first operator after which another one may be executed than
-- the next, and with it. A `nop` costs nothing, since it has no event.
abbrev pub piece_cost : {A : Type 0} → (A → ℕ) → Sequence A → ℕ
piece_cost cost Empty = 0
piece_cost cost (Single a Nop r) = piece_cost cost r
piece_cost cost (Single a action r) = cost a + rest_of_piece (goes_straight action) (piece_cost cost r)
piece_cost cost (Wrapped a w b e r) = cost a
piece_cost cost (IfThen a b e r) = cost a
piece_cost cost (IfElse a b l c e r) = cost a
piece_cost cost (TryCatch a b cs r) = cost a
piece_cost cost (TryDelegate a b e n r) = cost a

-- An operator that charges this cost, unless the piece before goes on here or there is nothing to charge.
abbrev pub with_charge : {A : Type 0} → Bool → ℕ → Sequence (Origin A ℕ) → Sequence (Origin A ℕ)
with_charge true n s = s
with_charge false zero s = s
with_charge false (suc n) s = Single (Added (suc n)) Plain s

-- The sequence with such an operator before each straight piece but the first: after each operator that ends a piece, where a sequence of a
-- construct begins, and after a construct.
abbrev mutual
  pub metered : {A : Type 0} → (A → ℕ) → Sequence A → Sequence (Origin A ℕ)
  metered cost Empty = Empty
  metered cost (Single a action r) = Single (Own a) action (with_charge (goes_straight action) (piece_cost cost r) (metered cost r))
  metered cost (Wrapped a w b e r) = Wrapped (Own a) w (with_charge false (piece_cost cost b) (metered cost b)) (Own e) (with_charge false (piece_cost cost r) (metered cost r))
  metered cost (IfThen a b e r) = IfThen (Own a) (with_charge false (piece_cost cost b) (metered cost b)) (Own e) (with_charge false (piece_cost cost r) (metered cost r))
  metered cost (IfElse a b l c e r) =
      IfElse (Own a) (with_charge false (piece_cost cost b) (metered cost b)) (Own l) (with_charge false (piece_cost cost c) (metered cost c)) (Own e)
      (with_charge false (piece_cost cost r) (metered cost r))
  metered cost (TryCatch a b cs r) =
      TryCatch (Own a) (with_charge false (piece_cost cost b) (metered cost b)) (metered_clauses cost cs) (with_charge false (piece_cost cost r) (metered cost r))
  metered cost (TryDelegate a b e n r) =
      TryDelegate (Own a) (with_charge false (piece_cost cost b) (metered cost b)) (Own e) n (with_charge false (piece_cost cost r) (metered cost r))

  pub metered_clauses : {A : Type 0} → (A → ℕ) → Clauses A → Clauses (Origin A ℕ)
  metered_clauses cost (Ended e) = Ended (Own e)
  metered_clauses cost (Catches a t b cs) = Catches (Own a) t (with_charge false (piece_cost cost b) (metered cost b)) (metered_clauses cost cs)
  metered_clauses cost (CatchesAll a b e) = CatchesAll (Own a) (with_charge false (piece_cost cost b) (metered cost b)) (Own e)

-- the body with such an operator before each straight piece
abbrev pub metered_body : {A : Type 0} → (A → ℕ) → Body A → Body (Origin A ℕ)
metered_body cost b = record { sequence = with_charge false (piece_cost cost b.sequence) (metered cost b.sequence); close = Own b.close }

-- At each event of the source's operators what has been charged is no less than the cost of those that have been executed, this one
-- included. `charged` and `used` are the sums before the first event. A handler that catches an exception costs nothing.
abbrev pub IsPaid : {A : Type 0} → (A → ℕ) → (charged used : ℕ) → List (Event (Origin A ℕ)) → Type 0
IsPaid cost charged used [] = Unit {0}
IsPaid cost charged used (Executed (Own a) ∷ es) = (used + cost a ≤ charged) × IsPaid cost charged (used + cost a) es
IsPaid cost charged used (Executed (Added n) ∷ es) = IsPaid cost (charged + n) used es
IsPaid cost charged used (Taken a i t ∷ es) = IsPaid cost charged used es

-- Each run of a metered body is paid for, whatever outcomes the added operators get.
abbrev pub MeteredIsPaid : (A : Type 0) → Type 0
MeteredIsPaid A = (cost : A → ℕ) (b : Body A) (os : List Outcome) (turns : ℕ) → IsPaid cost 0 0 (run (body_text (metered_body cost b)) os turns).events

-- Where the function returns, or leaves by a tail call, what was charged is what was used.
abbrev pub IsSettled : Ending → (charged used : ℕ) → Type 0
IsSettled Returned charged used = charged ≡ used
IsSettled TailCalled charged used = charged ≡ used
IsSettled _ charged used = Unit {0}

-- Up to the first exception that is caught: at each charge, what was charged before is what was used; and the end is settled. So of what a
-- run doesn't use, nothing is charged but the rest of the piece in which it ends, or in which an operator throws.
abbrev pub IsExact : {A : Type 0} → (A → ℕ) → Ending → (charged used : ℕ) → List (Event (Origin A ℕ)) → Type 0
IsExact cost ending charged used [] = IsSettled ending charged used
IsExact cost ending charged used (Executed (Own a) ∷ es) = IsExact cost ending charged (used + cost a) es
IsExact cost ending charged used (Executed (Added n) ∷ es) = (charged ≡ used) × IsExact cost ending (charged + n) used es
IsExact cost ending charged used (Taken a i t ∷ es) = Unit {0}

-- Each run of a metered body is charged exactly, whatever outcomes the added operators get.
abbrev pub MeteredIsExact : (A : Type 0) → Type 0
MeteredIsExact A =
    (cost : A → ℕ) (b : Body A) (os : List Outcome) (turns : ℕ) →
    IsExact cost (run (body_text (metered_body cost b)) os turns).ending 0 0 (run (body_text (metered_body cost b)) os turns).events

-- Metering is an insertion.
abbrev pub MeteredIsInserted : (A : Type 0) → Type 0
MeteredIsInserted A = (cost : A → ℕ) (b : Body A) → InsertedBody b (metered_body cost b)

-- ---- of named operators

-- the operator itself, the source's or an added one
abbrev pub without_origin : {A : Type 0} → Origin A A → A
without_origin (Own a) = a
without_origin (Added a) = a

-- The named operators form this body, which says which of them are added.
abbrev pub IsInsertedText : List Named → Body (Origin Named Named) → Type 0
IsInsertedText ys c = map mark_named ys ≡ map (λ x. with_control (without_origin x.shown) x.control) (body_text c)

abbrev pub named_asks : Named → Bool
named_asks x = asks_outcome (control_of x.op)

-- the run of a list of named operators
abbrev pub named_run : List Named → List Outcome → (turns : ℕ) → Run Named
named_run xs os turns = run (map mark_named xs) os turns

-- A run of named operators, in which it is said of each event whether its operator is added, follows a run of the source.
pub record NamedFollows (Stop : List Outcome → Run (Origin Named Named) → Type 0) (os' : List Outcome) (run' : Run Named) (os : List Outcome) (run : Run Named) : Type 0 where
  pub marked : Run (Origin Named Named)
  pub is_run : show_run without_origin marked ≡ run'
  pub follows : FollowsSource named_asks Stop os' marked os run

-- The law for lists of named operators: each run of the list with inserted operators follows a run of the source's list; and for each run of
-- the source's list there is one that follows it, in which no added operator stops.
abbrev pub NamedInsertedRuns : Type 0
NamedInsertedRuns =
    (xs ys : List Named) (b : Body Named) (c : Body (Origin Named Named)) → IsNamedBody xs b → IsInsertedText ys c → InsertedBody b c →
    (turns : ℕ) (os' : List Outcome) → (os : List Outcome) × NamedFollows AddedStops os' (named_run ys os' turns) os (named_run xs os turns)

abbrev pub NamedSourceRuns : Type 0
NamedSourceRuns =
    (xs ys : List Named) (b : Body Named) (c : Body (Origin Named Named)) → IsNamedBody xs b → IsInsertedText ys c → InsertedBody b c →
    (turns : ℕ) (os : List Outcome) → (os' : List Outcome) × NamedFollows NeverStops os' (named_run ys os' turns) os (named_run xs os turns)
