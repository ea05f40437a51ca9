-- The trace machine: the operators that a flat list executes, for given outcomes and a bound on loop turns (WebAssembly core
-- specification 3.0, execution, control instructions; legacy exception handling). It runs on a list of operators, of which it
-- uses only what each does to the control flow; it uses no tree. The outcomes of operators (which way a condition goes, whether
-- an operator traps or throws) are given as a list; there are no operand values and no memories.
--
-- A place is the list of the operators from there on. A run is at a place, with the labels that are open there, the outcomes
-- that are left and the turns that are left.
use Rattle.std.specs.Prelude.{ℕ, zero, suc, List, [], ◌∷◌, Bool, true, false, cond, eqb, Option, Some, None, length, slice_index_or}
use Rattle.wasm_body.specs.Control.{Action, Nop, Plain, Branch, ConditionalBranch, TableBranch, Return, Unreachable, Throw, ThrowRef, Rethrow, TailCall, Clause, Construct, Block, Loop, TryTable, If, Try, Control, Does, Opens, Else, Catch, CatchAll, End, Delegate, Marked}

-- ---- outcomes, events and endings

-- a set of tags
abbrev pub Tags : Type 0
Tags = List ℕ

abbrev pub has : Tags → ℕ → Bool
has [] t = false
has (x ∷ xs) t = cond (eqb x t) true (has xs t)

-- the outcome of an operator
pub data Outcome : Type 0 where
  Go : Outcome  -- it goes on
  Trap : Outcome  -- it traps
  Raise : (tags : Tags) → Outcome  -- it throws an exception, which each of these tags catches
  Way : (taken : Bool) → Outcome  -- the condition, or the branch, is taken or not
  Entry : (k : ℕ) → Outcome  -- the entry of a branch table

-- an operator was executed; or the construct that an operator opened caught an exception, by its clause with this number,
-- counted from 0, and with this tag, or none if the clause catches all
pub data Event (A : Type 0) : Type 0 where
  Executed : (shown : A) → Event A
  Taken : (opener : A) (clause : ℕ) (tag : Option ℕ) → Event A

pub data Ending : Type 0 where
  Returned : Ending
  TailCalled : Ending
  Trapped : Ending
  Escaped : (tags : Tags) → Ending
  OutcomesOut : Ending  -- an operator asked for an outcome, and none was left
  TurnsOut : Ending  -- a branch went to a loop, and no turn was left
  Mismatch : Ending  -- an operator got an outcome that it doesn't ask for

pub record Run (A : Type 0) : Type 0 where
  pub events : List (Event A)
  pub ending : Ending

abbrev pub ends : {A : Type 0} → Ending → Run A
ends e = record { events = []; ending = e }

-- an event, followed by a run
abbrev pub then : {A : Type 0} → Event A → Run A → Run A
then e r = record { events = e ∷ r.events; ending = r.ending }

-- ---- closers and parts

-- openers and closers are counted; `else`, `catch` and `catch_all` part a construct
pub data Shape : Type 0 where
  Opener : Shape
  Part : Shape
  Closer : Shape
  Other : Shape

abbrev pub control_shape : Control → Shape
control_shape (Does action) = Other
control_shape (Opens construct) = Opener
control_shape Else = Part
control_shape (Catch tag) = Part
control_shape CatchAll = Part
control_shape End = Closer
control_shape (Delegate n) = Closer

-- The search starts after an opener; since then there were `depth` more openers than closers. The closer of the opener is the
-- next closer at depth zero, and its parts are the parts at depth zero before that. The search finds the first part that passes
-- the test, or else the closer: the place of it, and the number of parts that were passed over.
pub record Found (A : Type 0) : Type 0 where
  pub passed : ℕ
  pub rest : List (Marked A)

abbrev pub found : {A : Type 0} → ℕ → List (Marked A) → Found A
found i rest = record { passed = i; rest = rest }

abbrev pub seek_at : {A : Type 0} → Shape → (depth : ℕ) → (passes : Bool) → ℕ → List (Marked A) → (ℕ → ℕ → Found A) → Found A
seek_at Opener depth p i here on = on (suc depth) i
seek_at Other depth p i here on = on depth i
seek_at Closer zero p i here on = found i here
seek_at Closer (suc depth) p i here on = on depth i
seek_at Part zero true i here on = found i here
seek_at Part zero false i here on = on zero (suc i)
seek_at Part (suc depth) p i here on = on (suc depth) i

abbrev pub seek : {A : Type 0} → (Control → Bool) → (depth : ℕ) → ℕ → List (Marked A) → Found A
seek test depth i [] = found i []
seek test depth i (x ∷ xs) = seek_at (control_shape x.control) depth (test x.control) i (x ∷ xs) (λ d j. seek test d j xs)

abbrev pub tail : {A : Type 0} → List A → List A
tail [] = []
tail (x ∷ xs) = xs

-- the place after the closer, where the search starts after the opener
abbrev pub after_closer : {A : Type 0} → List (Marked A) → List (Marked A)
after_closer xs = tail (seek (λ c. false) 0 0 xs).rest

-- ---- labels

-- an open label: its opener, the place after that, and for a handler the tags that it caught
pub record Label (A : Type 0) : Type 0 where
  pub opener : A
  pub construct : Construct
  pub following : List (Marked A)
  pub caught : Option Tags

abbrev pub label : {A : Type 0} → A → Construct → List (Marked A) → Label A
label a construct following = record { opener = a; construct = construct; following = following; caught = None }

abbrev pub handler : {A : Type 0} → Label A → Tags → Label A
handler l tags = record { opener = l.opener; construct = l.construct; following = l.following; caught = Some tags }

-- a run from a place, with the labels that are open there, innermost first, and the outcomes that are left
abbrev pub From : Type 0 → Type 0
From A = List (Marked A) → List (Label A) → List Outcome → Run A

-- In what follows `go` goes on within the turn, and `again` goes on after a turn was paid.

-- ---- branches

-- A branch to a loop goes to the operator after the `loop`, and costs a turn. A branch to another construct goes to the
-- operator after its closer.
abbrev pub arrive : {A : Type 0} → (again go : From A) → Construct → Label A → List (Label A) → List Outcome → Run A
arrive again go Block l ls outcomes = go (after_closer l.following) ls outcomes
arrive again go Loop l ls outcomes = again l.following (l ∷ ls) outcomes
arrive again go If l ls outcomes = go (after_closer l.following) ls outcomes
arrive again go Try l ls outcomes = go (after_closer l.following) ls outcomes
arrive again go (TryTable cs) l ls outcomes = go (after_closer l.following) ls outcomes

-- A branch to the function's label returns.
abbrev pub branch : {A : Type 0} → (again go : From A) → ℕ → List (Label A) → List Outcome → Run A
branch again go n [] outcomes = ends Returned
branch again go zero (l ∷ ls) outcomes = arrive again go l.construct l ls outcomes
branch again go (suc n) (l ∷ ls) outcomes = branch again go n ls outcomes

-- the label of an entry of a branch table: the default if there is no such entry
abbrev pub target : List ℕ → ℕ → ℕ → ℕ
target targets default k = slice_index_or targets k default

-- The end of a sequence is reached: the run goes on after the closer of its construct. At the function's end it returns.
abbrev pub leave : {A : Type 0} → (go : From A) → List (Label A) → List Outcome → Run A
leave go [] outcomes = ends Returned
leave go (l ∷ ls) outcomes = go (after_closer l.following) ls outcomes

-- ---- exceptions

-- What a construct does with an exception that leaves it: it lets it pass outwards; it delegates it to the construct of a
-- label, counted from outside; a clause catches it, and branches to a label or enters a handler.
pub data Response (A : Type 0) : Type 0 where
  Passes : Response A
  Hands : (n : ℕ) → Response A
  Jumps : (clause : ℕ) (tag : Option ℕ) (n : ℕ) → Response A
  Enters : (clause : ℕ) (tag : Option ℕ) (rest : List (Marked A)) → Response A

-- whether a clause catches an exception with these tags
abbrev pub takes : Tags → Option ℕ → Bool
takes tags None = true
takes tags (Some t) = has tags t

-- the first clause of a `try_table` that catches the exception
abbrev pub jump : {A : Type 0} → Tags → ℕ → List Clause → Response A
jump tags i [] = Passes
jump tags i (c ∷ cs) = cond (takes tags c.tag) (Jumps i c.tag c.label) (jump tags (suc i) cs)

-- a `catch` of one of the tags, or a `catch_all`
abbrev pub catches : Tags → Control → Bool
catches tags (Catch t) = has tags t
catches tags CatchAll = true
catches tags _ = false

-- the result of the search from a legacy `try` on: a clause that catches the exception, or the closer of the `try`
abbrev pub clause_at : {A : Type 0} → ℕ → Control → List (Marked A) → Response A
clause_at i (Catch t) rest = Enters i (Some t) rest
clause_at i CatchAll rest = Enters i None rest
clause_at i (Delegate n) rest = Hands n
clause_at i _ rest = Passes

abbrev pub clause_found : {A : Type 0} → ℕ → List (Marked A) → Response A
clause_found i [] = Passes
clause_found i (x ∷ xs) = clause_at i x.control xs

abbrev pub try_responds : {A : Type 0} → Tags → Found A → Response A
try_responds tags f = clause_found f.passed f.rest

-- A `try_table` tries its clauses in order. So does a legacy `try` whose body the exception leaves; if `delegate` closes it, it
-- delegates the exception. A `try` of which the exception leaves a handler lets it pass, as every other construct does.
abbrev pub responds_as : {A : Type 0} → Tags → Construct → (caught : Option Tags) → List (Marked A) → Response A
responds_as tags Block caught following = Passes
responds_as tags Loop caught following = Passes
responds_as tags If caught following = Passes
responds_as tags (TryTable cs) caught following = jump tags 0 cs
responds_as tags Try (Some t) following = Passes
responds_as tags Try None following = try_responds tags (seek (catches tags) 0 0 following)

abbrev pub responds : {A : Type 0} → Tags → Label A → Response A
responds tags l = responds_as tags l.construct l.caught l.following

-- A clause that catches is an event, also if no turn is left for its branch. A handler remembers the tags. `outward n` goes
-- on outwards, from label n on, counted from outside the construct.
abbrev pub react : {A : Type 0} → (again go : From A) → (outward : ℕ → Run A) → Tags → Label A → List (Label A) → List Outcome → Response A → Run A
react again go outward tags l ls outcomes Passes = outward 0
react again go outward tags l ls outcomes (Hands n) = outward n
react again go outward tags l ls outcomes (Jumps i t n) = then (Taken l.opener i t) (branch again go n ls outcomes)
react again go outward tags l ls outcomes (Enters i t rest) = then (Taken l.opener i t) (go rest (handler l tags ∷ ls) outcomes)

-- An exception goes outwards, from label n on. Past the function it escapes.
abbrev pub raise : {A : Type 0} → (again go : From A) → Tags → List (Label A) → List Outcome → ℕ → Run A
raise again go tags [] outcomes n = ends (Escaped tags)
raise again go tags (l ∷ ls) outcomes zero = react again go (raise again go tags ls outcomes) tags l ls outcomes (responds tags l)
raise again go tags (l ∷ ls) outcomes (suc n) = raise again go tags ls outcomes n

-- the tags that the handler of a label caught
abbrev pub caught_at : {A : Type 0} → List (Label A) → ℕ → Option Tags
caught_at [] n = None
caught_at (l ∷ ls) zero = l.caught
caught_at (l ∷ ls) (suc n) = caught_at ls n

-- A `rethrow` throws an exception with the tags of the handler that it names.
abbrev pub rethrow : {A : Type 0} → (Tags → Run A) → Option Tags → Run A
rethrow raised None = ends Mismatch
rethrow raised (Some tags) = raised tags

-- ---- asking for an outcome: a missing one, or one of another kind, ends the run before the operator is executed

-- Go, Trap if the operator may trap, or Raise of tags that it may throw
abbrev pub take_outcome : {A : Type 0} → (may_raise : Tags → Bool) → (may_trap : Bool) → A → (List Outcome → Run A) → (Tags → List Outcome → Run A) → List Outcome → Run A
take_outcome may_raise may_trap a on raised [] = ends OutcomesOut
take_outcome may_raise may_trap a on raised (Go ∷ outcomes) = on outcomes
take_outcome may_raise may_trap a on raised (Trap ∷ outcomes) = cond may_trap (then (Executed a) (ends Trapped)) (ends Mismatch)
take_outcome may_raise may_trap a on raised (Raise tags ∷ outcomes) = cond (may_raise tags) (then (Executed a) (raised tags outcomes)) (ends Mismatch)
take_outcome may_raise may_trap a on raised (Way w ∷ outcomes) = ends Mismatch
take_outcome may_raise may_trap a on raised (Entry k ∷ outcomes) = ends Mismatch

abbrev pub take_way : {A : Type 0} → A → (Bool → List Outcome → Run A) → List Outcome → Run A
take_way a on [] = ends OutcomesOut
take_way a on (Way w ∷ outcomes) = then (Executed a) (on w outcomes)
take_way a on (Go ∷ outcomes) = ends Mismatch
take_way a on (Trap ∷ outcomes) = ends Mismatch
take_way a on (Raise tags ∷ outcomes) = ends Mismatch
take_way a on (Entry k ∷ outcomes) = ends Mismatch

abbrev pub take_entry : {A : Type 0} → A → (ℕ → List Outcome → Run A) → List Outcome → Run A
take_entry a on [] = ends OutcomesOut
take_entry a on (Entry k ∷ outcomes) = then (Executed a) (on k outcomes)
take_entry a on (Go ∷ outcomes) = ends Mismatch
take_entry a on (Trap ∷ outcomes) = ends Mismatch
take_entry a on (Raise tags ∷ outcomes) = ends Mismatch
take_entry a on (Way w ∷ outcomes) = ends Mismatch

-- ---- the step

-- One operator by itself; `rest` is the place after it. Operators that can't go on, or can't throw, end with a mismatch on such
-- an outcome.
abbrev pub act : {A : Type 0} → (again go : From A) → Action → A → List (Marked A) → List (Label A) → List Outcome → Run A
-- `nop` asks for no outcome and gives no event.
act again go Nop a rest ls outcomes = go rest ls outcomes
-- A plain operator asks for Go, Trap or Raise.
act again go Plain a rest ls outcomes = take_outcome (λ s. true) true a (λ o. then (Executed a) (go rest ls o)) (λ s o. raise again go s ls o 0) outcomes
-- `br` asks for no outcome.
act again go (Branch n) a rest ls outcomes = then (Executed a) (branch again go n ls outcomes)
-- `br_if` and other conditional branches ask for Way: they branch on true.
act again go (ConditionalBranch n) a rest ls outcomes = take_way a (λ w o. cond w (branch again go n ls o) (go rest ls o)) outcomes
-- `br_table` asks for Entry.
act again go (TableBranch targets default) a rest ls outcomes = take_entry a (λ k o. branch again go (target targets default k) ls o) outcomes
-- `return` and `unreachable` ask for no outcome.
act again go Return a rest ls outcomes = then (Executed a) (ends Returned)
act again go Unreachable a rest ls outcomes = then (Executed a) (ends Trapped)
-- `throw` asks for Raise with its tag.
act again go (Throw t) a rest ls outcomes = take_outcome (λ s. has s t) false a (λ o. ends Mismatch) (λ s o. raise again go s ls o 0) outcomes
-- `throw_ref` asks for Raise or Trap.
act again go ThrowRef a rest ls outcomes = take_outcome (λ s. true) true a (λ o. ends Mismatch) (λ s o. raise again go s ls o 0) outcomes
-- `rethrow` asks for no outcome; its exception goes outwards from the place of the `rethrow`.
act again go (Rethrow n) a rest ls outcomes = then (Executed a) (rethrow (λ s. raise again go s ls outcomes 0) (caught_at ls n))
-- A tail call asks for Go or Trap.
act again go TailCall a rest ls outcomes = take_outcome (λ s. false) true a (λ o. then (Executed a) (ends TailCalled)) (λ s o. ends Mismatch) outcomes

-- the way of an `if` whose condition is false: to the place after its `else`, or after its `end` if it has no `else`
abbrev pub is_else : Control → Bool
is_else Else = true
is_else _ = false

abbrev pub other_at : {A : Type 0} → (go : From A) → Label A → List (Label A) → List Outcome → List (Marked A) → Run A
other_at go l ls outcomes [] = ends Returned
other_at go l ls outcomes (x ∷ xs) = cond (is_else x.control) (go xs (l ∷ ls) outcomes) (go xs ls outcomes)

abbrev pub other_way : {A : Type 0} → (go : From A) → Label A → List (Label A) → List Outcome → Found A → Run A
other_way go l ls outcomes f = other_at go l ls outcomes f.rest

-- An opener opens a label. Only `if` asks for an outcome: Way. True enters the consequent.
abbrev pub enter : {A : Type 0} → (go : From A) → Construct → A → List (Marked A) → List (Label A) → List Outcome → Run A
enter go Block a rest ls outcomes = then (Executed a) (go rest (label a Block rest ∷ ls) outcomes)
enter go Loop a rest ls outcomes = then (Executed a) (go rest (label a Loop rest ∷ ls) outcomes)
enter go (TryTable cs) a rest ls outcomes = then (Executed a) (go rest (label a (TryTable cs) rest ∷ ls) outcomes)
enter go Try a rest ls outcomes = then (Executed a) (go rest (label a Try rest ∷ ls) outcomes)
enter go If a rest ls outcomes =
    take_way a (λ w o. cond w (go rest (label a If rest ∷ ls) o) (other_way go (label a If rest) ls o (seek is_else 0 0 rest))) outcomes

-- The operators that part and close constructs ask for no outcome and give no event: the sequence ends there.
abbrev pub step : {A : Type 0} → (again go : From A) → Control → A → List (Marked A) → List (Label A) → List Outcome → Run A
step again go (Does action) a rest ls outcomes = act again go action a rest ls outcomes
step again go (Opens construct) a rest ls outcomes = enter go construct a rest ls outcomes
step again go Else a rest ls outcomes = leave go ls outcomes
step again go (Catch t) a rest ls outcomes = leave go ls outcomes
step again go CatchAll a rest ls outcomes = leave go ls outcomes
step again go End a rest ls outcomes = leave go ls outcomes
step again go (Delegate n) a rest ls outcomes = leave go ls outcomes

-- ---- the run

-- At most this many operators, until a turn is paid. After a step that pays no turn fewer operators are left from the place on,
-- so their count is enough.
abbrev pub straight : {A : Type 0} → (again : From A) → ℕ → From A
straight again zero rest ls outcomes = ends Returned
straight again (suc n) [] ls outcomes = ends Returned
straight again (suc n) (x ∷ xs) ls outcomes = step again (straight again n) x.control x.shown xs ls outcomes

-- a run with this many turns left; `bound` gives a bound on the operators of a turn, from the place where the turn begins
abbrev pub bounded_run : {A : Type 0} → (bound : List (Marked A) → ℕ) → (turns : ℕ) → From A
bounded_run bound zero rest ls outcomes = straight (λ r l o. ends TurnsOut) (bound rest) rest ls outcomes
bounded_run bound (suc turns) rest ls outcomes = straight (bounded_run bound turns) (bound rest) rest ls outcomes

-- The run of a list of operators. Outcomes that are left over have no effect.
abbrev pub run : {A : Type 0} → List (Marked A) → List Outcome → (turns : ℕ) → Run A
run ops outcomes turns = bounded_run length turns ops [] outcomes
