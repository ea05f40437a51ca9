-- The source tree: structured control as a grammar over whole lists of operators (WebAssembly core specification 3.0,
-- control instructions; legacy exception handling). A tree is a value, and its text is a list of operators; a list forms a body
-- if it is the text of one.
use Rattle.std.specs.Prelude.{ℕ, List, [], ◌∷◌}
use Rattle.wasm_body.specs.Control.{Action, Clause, Construct, Block, Loop, TryTable, If, Try, Does, Opens, Else, Catch, CatchAll, End, Delegate, Marked, with_control}

-- the openers of constructs with one sequence
pub data Wrapper : Type 0 where
  OfBlock : Wrapper
  OfLoop : Wrapper
  OfTryTable : (clauses : List Clause) → Wrapper

abbrev pub construct_of : Wrapper → Construct
construct_of OfBlock = Block
construct_of OfLoop = Loop
construct_of (OfTryTable cs) = TryTable cs

-- A sequence is empty, or an item and the rest. The values that are shown for operators are `a` for an operator that is not
-- part of a construct and for an opener, `e` for the operator that closes a construct, and `l` for an `else`.
mutual
  pub data Sequence (A : Type 0) : Type 0 where
    Empty : Sequence A
    Single : (a : A) (action : Action) (rest : Sequence A) → Sequence A
    Wrapped : (a : A) (wrapper : Wrapper) (body : Sequence A) (e : A) (rest : Sequence A) → Sequence A
    IfThen : (a : A) (body : Sequence A) (e : A) (rest : Sequence A) → Sequence A
    IfElse : (a : A) (body : Sequence A) (l : A) (other : Sequence A) (e : A) (rest : Sequence A) → Sequence A
    TryCatch : (a : A) (body : Sequence A) (clauses : Clauses A) (rest : Sequence A) → Sequence A
    TryDelegate : (a : A) (body : Sequence A) (e : A) (n : ℕ) (rest : Sequence A) → Sequence A

  -- any number of handlers by tag, then at most one of all tags, then the `end`
  pub data Clauses (A : Type 0) : Type 0 where
    Ended : (e : A) → Clauses A
    Catches : (a : A) (tag : ℕ) (body : Sequence A) (rest : Clauses A) → Clauses A
    CatchesAll : (a : A) (body : Sequence A) (e : A) → Clauses A

-- the operators of a sequence, followed by the operators k
abbrev mutual
  pub text : {A : Type 0} → Sequence A → List (Marked A) → List (Marked A)
  text Empty k = k
  text (Single a action r) k = with_control a (Does action) ∷ text r k
  text (Wrapped a w b e r) k = with_control a (Opens (construct_of w)) ∷ text b (with_control e End ∷ text r k)
  text (IfThen a b e r) k = with_control a (Opens If) ∷ text b (with_control e End ∷ text r k)
  text (IfElse a b l c e r) k = with_control a (Opens If) ∷ text b (with_control l Else ∷ text c (with_control e End ∷ text r k))
  text (TryCatch a b cs r) k = with_control a (Opens Try) ∷ text b (clauses_text cs (text r k))
  text (TryDelegate a b e n r) k = with_control a (Opens Try) ∷ text b (with_control e (Delegate n) ∷ text r k)

  pub clauses_text : {A : Type 0} → Clauses A → List (Marked A) → List (Marked A)
  clauses_text (Ended e) k = with_control e End ∷ k
  clauses_text (Catches a t b cs) k = with_control a (Catch t) ∷ text b (clauses_text cs k)
  clauses_text (CatchesAll a b e) k = with_control a CatchAll ∷ text b (with_control e End ∷ k)

-- A body is a sequence and the `end` that closes it.
pub record Body (A : Type 0) : Type 0 where
  pub sequence : Sequence A
  pub close : A

abbrev pub body_text : {A : Type 0} → Body A → List (Marked A)
body_text b = text b.sequence (with_control b.close End ∷ [])

-- ---- the same tree with something else shown

abbrev mutual
  pub map_sequence : {A B : Type 0} → (A → B) → Sequence A → Sequence B
  map_sequence g Empty = Empty
  map_sequence g (Single a action r) = Single (g a) action (map_sequence g r)
  map_sequence g (Wrapped a w b e r) = Wrapped (g a) w (map_sequence g b) (g e) (map_sequence g r)
  map_sequence g (IfThen a b e r) = IfThen (g a) (map_sequence g b) (g e) (map_sequence g r)
  map_sequence g (IfElse a b l c e r) = IfElse (g a) (map_sequence g b) (g l) (map_sequence g c) (g e) (map_sequence g r)
  map_sequence g (TryCatch a b cs r) = TryCatch (g a) (map_sequence g b) (map_clauses g cs) (map_sequence g r)
  map_sequence g (TryDelegate a b e n r) = TryDelegate (g a) (map_sequence g b) (g e) n (map_sequence g r)

  pub map_clauses : {A B : Type 0} → (A → B) → Clauses A → Clauses B
  map_clauses g (Ended e) = Ended (g e)
  map_clauses g (Catches a t b cs) = Catches (g a) t (map_sequence g b) (map_clauses g cs)
  map_clauses g (CatchesAll a b e) = CatchesAll (g a) (map_sequence g b) (g e)

abbrev pub map_body : {A B : Type 0} → (A → B) → Body A → Body B
map_body g b = record { sequence = map_sequence g b.sequence; close = g b.close }
