-- What the steps of the checker do.
use Rattle.std.specs.Prelude.{◌≡◌, ◌≢◌, ◌⊎◌, ℕ, List, [], ◌∷◌, ◌++◌, ◌==◌, ◌||◌, reverse, Bool, true, false, cond, Option, Some, None, IsOk, Result, Ok, Err}
use Rattle.walrus_ir.specs.declared.control.BlockKind.{BlockKind}
use Rattle.walrus_ir.specs.declared.control.BlockKind.TheVariants as kind
use Rattle.walrus_ir.specs.declared.val_type.InstrSeqType.{InstrSeqType}
use Rattle.wasm_types.specs.declared.val_type.ValType.{ValType}
use Rattle.walrus_ir.specs.Types.{Signature, signature, signature_of_type}
use Rattle.wasm_numbers.specs.Results.{◌>>=◌, with_fault}
use Rattle.wasm_operators.specs.declared.types.BlockType.{BlockType}
use Rattle.wasm_operators.specs.declared.types.Space.TheVariants.{Tags}
use Rattle.wasm_operators.specs.declared.types.Opcode.TheVariants.{Byte}
use Rattle.wasm_operators.specs.Operations.{operation, RawOperation}
use Rattle.wasm_body.specs.declared.error.ParseError.{ParseError}
use Rattle.wasm_body.specs.declared.error.ParseError.TheVariants.{Memory, Index, ElseOutsideIf, CatchOutsideTry, DelegateOutsideTry}
use Rattle.wasm_body.specs.Naming.{Environment, id_at, name_block, tag_type, has_pick}
use Rattle.wasm_renumber.specs.Changes.{changed_operator}
use Rattle.walrus_flat.specs.UsedLocals.{is_used}
use Rattle.walrus_flat.specs.declared.checker.Checker.{Checker}
use Rattle.walrus_flat.specs.declared.open_sequence.OpenSequence.{OpenSequence}
use Rattle.walrus_flat.specs.Checked.{env_of_checker, checking_changes}
use Rattle.walrus_parser.specs.Handlers.{handler_kind, has_clauses}
use Rattle.walrus_flat.specs.SequenceKinds.{has_else, has_delegate}

-- ---- parts and types

-- an operator with its parts, if all of them exist
abbrev pub parts_in : Checker → RawOperation → Result RawOperation ParseError
parts_in c o = changed_operator (checking_changes (env_of_checker c) (reverse c.«open».items)) o

-- No part of an operator is missing in any module; nor does a block type name anything that is missing.
abbrev pub HasNoParts : RawOperation → Type 0
HasNoParts o = (c : Checker) → IsOk (parts_in c o)

abbrev pub NamesNoType : BlockType → Type 0
NamesNoType b = (env : Environment) → IsOk (name_block env b)

-- The operator is this byte.
abbrev pub IsOneByte : RawOperation → ℕ → Type 0
IsOneByte o byte = o ≡ operation (Byte byte) []

-- The parts exist; or memory ran out, or this is the first fault among them.
abbrev pub ChecksParts : Checker → RawOperation → Result (Unit {0}) ParseError → Type 0
ChecksParts c o (Ok u) = IsOk (parts_in c o)
ChecksParts c o (Err e) = (e ≡ Memory) ⊎ (parts_in c o ≡ Err e)

-- The type has the parameters and results of the block type, if that has a name; or this is the block type's fault.
abbrev pub IsNamedType : Environment → BlockType → Result InstrSeqType ParseError → Type 0
IsNamedType env b (Ok t) = (s : Signature) → name_block env b ≡ Ok s → signature_of_type env.types t ≡ Some s
IsNamedType env b (Err e) = name_block env b ≡ Err e

-- the module has the type of a handler for this tag, if it has one, with these results
abbrev pub has_handler_type : Environment → Option ℕ → List (ValType ℕ) → Result (Unit {0}) ParseError
has_handler_type env None results = has_pick env (signature [] results)
has_handler_type env (Some n) results = id_at env Tags n >>= λ tag. tag_type env tag >>= λ s. has_pick env (signature s.parameters results)

-- ---- sequences

-- the same sequence of a construct, as one of this kind
abbrev pub as_kind : BlockKind → OpenSequence → OpenSequence
as_kind k f = record f { kind = k }

-- The innermost sequence is closed, and was this one.
pub record ClosesSequence (old new : Checker) (top : OpenSequence) : Type 0 where
  pub was : old.«open».items ≡ new.«open».items ++ top ∷ []
  pub is : new ≡ record old { «open» = new.«open»; unreachable = top.before }

-- And others are still open.
abbrev pub ClosesInner : Checker → Checker → Type 0
ClosesInner old new = (top : OpenSequence) × ClosesSequence old new top × (new.«open».items ≢ [])

-- It is replaced by the next one of its construct, which has this kind.
pub record Parts (old new : Checker) (top : OpenSequence) (k : BlockKind) : Type 0 where
  pub others : List OpenSequence
  pub was : old.«open».items ≡ others ++ top ∷ []
  pub opens : new.«open».items ≡ others ++ as_kind k top ∷ []
  pub is : new ≡ record old { «open» = new.«open»; unreachable = top.before }

-- A sequence of this type is opened within the others.
pub record OpensSequence (old new : Checker) (k : BlockKind) (t : InstrSeqType) : Type 0 where
  pub opens : new.«open».items ≡ old.«open».items ++ record { kind = k; ty = t; before = old.unreachable } ∷ []
  pub is : new ≡ record old { lists = new.lists; «open» = new.«open» }

-- The innermost sequence, if there is one, isn't of a kind that passes the test.
abbrev pub IsNoTop : Checker → (BlockKind → Bool) → Type 0
IsNoTop c test = (others : List OpenSequence) (top : OpenSequence) → c.«open».items ≡ others ++ top ∷ [] → test top.kind ≡ false

-- ---- steps

-- The parts of an opener exist, the module has its pick, and its first sequence is open.
pub record BeginsConstruct (old new : Checker) (o : RawOperation) (k : BlockKind) (b : BlockType) : Type 0 where
  pub parts : IsOk (parts_in old o)
  pub type : InstrSeqType
  pub has_type : (s : Signature) → name_block (env_of_checker old) b ≡ Ok s → signature_of_type (env_of_checker old).types type ≡ Some s
  pub picks : (s : Signature) → name_block (env_of_checker old) b ≡ Ok s → has_pick (env_of_checker old) s ≡ Ok tt
  pub opens : OpensSequence old new k type

-- Otherwise memory ran out, or this is the first fault of a part, or that of the pick.
abbrev pub RefusesPick : Checker → RawOperation → BlockType → ParseError → Type 0
RefusesPick old o b e = IsOk (parts_in old o) × ((s : Signature) → name_block (env_of_checker old) b ≡ Ok s → has_pick (env_of_checker old) s ≡ Err e)

abbrev pub RefusesConstruct : Checker → RawOperation → BlockType → ParseError → Type 0
RefusesConstruct old o b e = (e ≡ Memory) ⊎ ((parts_in old o ≡ Err e) ⊎ RefusesPick old o b e)

-- The innermost sequence is a consequent, and becomes an alternative.
pub record PartsIf (old new : Checker) : Type 0 where
  pub top : OpenSequence
  pub is_if : has_else top.kind ≡ true
  pub parts : Parts old new top kind.Else

abbrev pub RefusesElse : Checker → ParseError → Type 0
RefusesElse old e = (e ≡ Memory) ⊎ ((e ≡ ElseOutsideIf) × IsNoTop old has_else)

-- The innermost sequence is one of a `try`, and becomes a handler, for which the module has a type.
pub record PartsTry (old new : Checker) (tag : Option ℕ) : Type 0 where
  pub top : OpenSequence
  pub is_try : has_clauses top.kind ≡ true
  pub has_type : (s : Signature) → signature_of_type (env_of_checker old).types top.ty ≡ Some s → has_handler_type (env_of_checker old) tag s.results ≡ Ok tt
  pub parts : Parts old new top (handler_kind tag)

pub record RefusesHandler (old : Checker) (tag : Option ℕ) (e : ParseError) : Type 0 where
  pub others : List OpenSequence
  pub top : OpenSequence
  pub was : old.«open».items ≡ others ++ top ∷ []
  pub is_try : has_clauses top.kind ≡ true
  pub has_no_type : (s : Signature) → signature_of_type (env_of_checker old).types top.ty ≡ Some s → has_handler_type (env_of_checker old) tag s.results ≡ Err e

abbrev pub RefusesClause : Checker → Option ℕ → ParseError → Type 0
RefusesClause old tag e = (e ≡ Memory) ⊎ (((e ≡ CatchOutsideTry) × IsNoTop old has_clauses) ⊎ RefusesHandler old tag e)

-- The innermost sequence is the body of a `try`, which is closed.
pub record ClosesTry (old new : Checker) (o : RawOperation) : Type 0 where
  pub parts : IsOk (parts_in old o)
  pub top : OpenSequence
  pub is_try : has_delegate top.kind ≡ true
  pub others : List OpenSequence
  pub was : old.«open».items ≡ others ++ top ∷ []
  pub now : new.«open».items ≡ others
  pub is : new ≡ record old { lists = new.lists; «open» = new.«open»; unreachable = top.before }

-- The innermost sequence, if there is one, is of a kind that passes the test.
abbrev pub IsTop : Checker → (BlockKind → Bool) → Type 0
IsTop c test = (others : List OpenSequence) (top : OpenSequence) → c.«open».items ≡ others ++ top ∷ [] → test top.kind ≡ true

abbrev pub RefusesDelegate : Checker → RawOperation → ParseError → Type 0
RefusesDelegate old o e = (e ≡ Memory) ⊎ (((e ≡ DelegateOutsideTry) × IsNoTop old has_delegate) ⊎ (IsTop old has_delegate × (parts_in old o ≡ Err e)))

-- A local is named, which is used if code isn't unreachable.
abbrev pub used_in : Checker → ℕ → Bool
used_in c id = is_used c.used id

pub record NamesLocal (old new : Checker) (index : ℕ) : Type 0 where
  pub id : ℕ
  pub is_local : (env_of_checker old).local_of index ≡ Ok id
  pub used : (x : ℕ) → used_in new x ≡ (cond old.unreachable false (x == id) || used_in old x)
  pub is : new ≡ record old { used = new.used }

abbrev pub RefusesLocal : Checker → ℕ → ParseError → Type 0
RefusesLocal old index e = (e ≡ Memory) ⊎ (with_fault Index ((env_of_checker old).local_of index) ≡ Err e)

-- An operator by itself is checked; what follows it is unreachable if this is so of it or was before.
pub record TakesOperator (old new : Checker) (o : RawOperation) (unreachable_after : Bool) : Type 0 where
  pub parts : IsOk (parts_in old o)
  pub is : new ≡ record old { lists = new.lists; unreachable = unreachable_after || old.unreachable }
