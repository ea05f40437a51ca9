-- Operators of two names, of which one has other ids of locals, are written alike, where these have the same numbers.
use Rattle.std.proofs.Common.{◌≡◌, ℕ, List, [], ◌∷◌, ◌++◌, map, Bool, true, false, not, Result, Ok, refl, sym, ap, ◌∙◌, subst}
use Rattle.std.specs.List.{AllByRecursion}
use Rattle.std.proofs.lemmas.List.{map-append}
use Rattle.walrus_ir.specs.Types.{Signature}
use Rattle.wasm_operators.specs.declared.types.Space.{Space}
use Rattle.wasm_operators.specs.declared.types.Space.TheVariants.{Tags}
use Rattle.wasm_operators.specs.declared.types.BlockType.{BlockType}
use Rattle.wasm_operators.specs.declared.types.BlockType.TheVariants.{Empty}
use Rattle.wasm_operators.specs.Operations.{Immediate, index, local, RawOperation, operation}
use Rattle.wasm_operators.specs.OperatorList.{Placed}
use Rattle.wasm_numbers.specs.Results.{◌>>=◌, gather}
use Rattle.wasm_body.specs.declared.error.EmitError.{EmitError}
use Rattle.wasm_body.specs.declared.error.ParseError.{ParseError}
use Rattle.wasm_body.specs.Control.{Action, Control, Does, Opens, If, Block, Loop, Try, TryTable, Construct, Else, Catch, CatchAll, End, Delegate, Marked, with_control, catch_opcode, control_of}
use Rattle.wasm_body.specs.Frames.{SequenceFrame}
use Rattle.wasm_body.specs.Translation.{translate, translate_immediate, translate_immediates, Located, at_location}
use Rattle.wasm_body.specs.Naming.{Environment, NamedOperation, Occurrence, naming, name_block, block_types, first_signature, block_signature}
use Rattle.wasm_body.specs.NormalForm.{Typing, construct_type, Fate, Drops, Stays, MakesUnreachable, fate, typing_of, normal_form, name_at, named_body}
use Rattle.wasm_body.specs.Bytes.{Numbers, in_32_bits, numbers_in_32_bits, numbered_block, numbered_text}
use Rattle.wasm_body.specs.LocalNumbers.{locals_among, locals_of}
use Rattle.wasm_body.specs.RewrittenTree.{else_at, catch_at}
use Rattle.wasm_body.specs.TextLaws.{mark_named}
use Rattle.wasm_body.specs.Flat.{Named, Mode, Live, Waits, Unreachable, Open, Dropped, Kept, FlatState, flat_state, first_state, innermost, needs_else, plain_written, else_written, end_written, live_written, after_else, waiting_written, ending_written, unreachable_written, written_in, written_at, after_live, after_unreachable, after_in, after, flat, begins_with, renumbering, sequence_type, numbered_at_location, Unreachability, first_unreachability, unreachability_after, unless_dropped, own_locals, live_locals, locals_read}
use Rattle.wasm_body.proofs.Translation.Steps.{Leads, bound, all_of}
use Rattle.wasm_body.proofs.Translation.Translations.{LeadAll, lead_all, translate_leads}
use Rattle.wasm_body.proofs.Bytes.BlockTypes.{FromBlock, blocks_from}
use Rattle.wasm_body.specs.SourceTree.{Body}
use Rattle.wasm_body.specs.Parsing.Accepted.{HasSpelling, placed, mark, Lawful}
use Rattle.wasm_body.specs.Typed.{AreTyped}
use Rattle.wasm_body.proofs.Structure.Along.{AllMarked}
use Rattle.wasm_body.proofs.Translation.LocalsKept.{before, first_local}
use Rattle.wasm_body.proofs.Parsing.NamingLemmas.{named_parts}
use Rattle.wasm_body.proofs.Bytes.LawfulTyped.{NamedSomewhere, named_somewhere, lawful_named}
use Rattle.wasm_body.proofs.Flat.Numbers.{flat_is_numbered}
use Rattle.wasm_body.proofs.Flat.Locals.{locals_read_are_named}
use Rattle.wasm_module.proofs.Again.OtherNames.{with_other_locals, HasOtherLocalIds, IsRenamed, renamed, unchanged, same_control, same_block_types}

-- Two lists of locals, of which the second has the others of the first.
abbrev pub AreOthers : (other : ℕ → Result ℕ ParseError) → (locals others : List ℕ) → Type 0
AreOthers other [] [] = Unit {0}
AreOthers other (n ∷ ns) (m ∷ ms) = (other n ≡ Ok m) × AreOthers other ns ms
AreOthers other _ _ = ⊥

module _ (other : ℕ → Result ℕ ParseError) where
  others_append : (ns ms ks ls : List ℕ) → AreOthers other ns ms → AreOthers other ks ls → AreOthers other (ns ++ ks) (ms ++ ls)
  others_append [] [] ks ls h g = g
  others_append (n ∷ ns) (m ∷ ms) ks ls h g = (h.0, others_append ns ms ks ls h.1 g)
  others_append [] (m ∷ ms) ks ls h g = absurd h
  others_append (n ∷ ns) [] ks ls h g = absurd h

-- The picked types of sequences are written alike, and are both balanced or not.
pub record ArePickedAlike (env : Environment) (m m' : Typing) (to to' : Numbers) : Type 0 where
  pub numbers : (b : BlockType) (s : Signature) → name_block env b ≡ Ok s → numbered_block to' (m'.picked s) ≡ numbered_block to (m.picked s)
  pub balanced : (b : BlockType) (s : Signature) → name_block env b ≡ Ok s → to'.balanced (m'.picked s) ≡ to.balanced (m.picked s)

module _
    (env : Environment) (m m' : Typing) (to to' : Numbers) (other : ℕ → Result ℕ ParseError) (picked : ArePickedAlike env m m' to to')
    (numbers : (space : Space) (id : ℕ) → to'.number_of space id ≡ to.number_of space id) (locals : (n k : ℕ) → other n ≡ Ok k → to'.local_number k ≡ to.local_number n) where
  abbrev IsNamedSomewhere : NamedOperation → Type 0
  IsNamedSomewhere x = (fs : List (SequenceFrame Occurrence)) × (o : RawOperation) × (translate (naming env fs) o ≡ Ok x)

  -- the signature of an operator is one of a block type
  of_block : (x : NamedOperation) → IsNamedSomewhere x → (b : BlockType) × (name_block env b ≡ Ok (block_signature x))
  of_block x h =
      let o = h.1 in
      let first = bound (translate_immediates (naming env h.0) o.immediates) (λ is. Ok (record { opcode = o.opcode; immediates = is })) x h.2 in
      let same : record { opcode = o.opcode; immediates = first.0 } ≡ x = cc first.2 in
      subst (λ (n : NamedOperation). (b : BlockType) × (name_block env b ≡ Ok (block_signature n))) same (by_blocks (block_types first.0) (blocks_from (naming env h.0) o.immediates first.0 first.1))
    where
      by_blocks : (ss : List Signature) → AllByRecursion (FromBlock (naming env h.0)) ss → (b : BlockType) × (name_block env b ≡ Ok (first_signature ss))
      by_blocks [] h = (Empty, refl)
      by_blocks (s ∷ ss) h = h.0

  -- ---- one operator

  -- It has a name and the other one, and the same control.
  pub record AreAlike (c : Control) (x y : NamedOperation) : Type 0 where
    pub named : IsNamedSomewhere x
    pub renamed : IsRenamed other x y
    pub control : control_of x ≡ c

  same_signature : (c : Control) (x y : NamedOperation) → AreAlike c x y → block_signature y ≡ block_signature x
  same_signature c x y h = ap first_signature (same_block_types other x y h.renamed)

  fits_same : (space : Space) (id : ℕ) → (numbers_in_32_bits to').number_of space id ≡ (numbers_in_32_bits to).number_of space id
  fits_same space id = ap (λ r. r >>= in_32_bits) (numbers space id)

  same_sequence : (c : Control) (x y : NamedOperation) → AreAlike c x y → numbered_block to' (sequence_type m' c y) ≡ numbered_block to (sequence_type m c x)
  same_sequence (Opens k) x y h =
      let b = of_block x h.named in
      ap (λ s. numbered_block to' (m'.picked s)) (same_signature (Opens k) x y h) ∙ picked.numbers b.0 (block_signature x) b.1
  same_sequence (Does action) x y h = refl
  same_sequence Else x y h = refl
  same_sequence (Catch t) x y h = refl
  same_sequence CatchAll x y h = refl
  same_sequence End x y h = refl
  same_sequence (Delegate n) x y h = refl

  same_balance : (c : Control) (x y : NamedOperation) → AreAlike c x y → to'.balanced (construct_type m' y) ≡ to.balanced (construct_type m x)
  same_balance c x y h =
      let b = of_block x h.named in
      ap (λ s. to'.balanced (m'.picked s)) (same_signature c x y h) ∙ picked.balanced b.0 (block_signature x) b.1

  abbrev written : Marked Named → Result (Located RawOperation) EmitError
  written = numbered_at_location to m

  abbrev written' : Marked Named → Result (Located RawOperation) EmitError
  written' = numbered_at_location to' m'

  -- it is written alike
  same_written : (c : Control) (x y : NamedOperation) (l : ℕ) → AreAlike c x y → written' (with_control (at_location y l) c) ≡ written (with_control (at_location x l) c)
  same_written c x y l h =
      let f = with_other_locals other in
      let g = renumbering to' (sequence_type m' c y) in
      let k = renumbering to (sequence_type m c x) in
      let stays : (r : ℕ → Result ℕ EmitError) (n q : ℕ) → (let s : Result ℕ ParseError = Ok n in s) ≡ Ok q → r q ≡ r n =
      λ r n q e. let is : n ≡ q = cc e in ap r (sym is) in
      let leads : LeadAll f g k = record {
        indices = λ space n q e. stays ((numbers_in_32_bits to').number_of space) n q e ∙ fits_same space n;
        locals = λ n q e. ap (λ r. r >>= in_32_bits) (locals n q e);
        labels = λ n q e. stays in_32_bits n q e;
        handlers = λ n q e. stays in_32_bits n q e;
        outers = λ n q e. stays in_32_bits n q e;
        numbers = λ n q e. stays in_32_bits n q e;
        alignments = λ n. refl;
        counts = λ n u e. refl;
      } in
      let immediates : translate_immediates g y.immediates ≡ translate_immediates k x.immediates =
      translate_leads f g k x.immediates (lead_all f g k leads x.immediates (all_of (Leads f.block g.block k.block) (λ s t e. same_sequence c x y h) (block_types x.immediates)))
      y.immediates h.renamed.immediates in
      (λ n. (immediates n >>= λ is. (let r : Result RawOperation EmitError = Ok (record { opcode = h.renamed.opcode n; immediates = is }) in r)) >>= λ o. Ok (at_location o l))

  catch_same : (tag l : ℕ) → written' (with_control (catch_at tag l) (Catch tag)) ≡ written (with_control (catch_at tag l) (Catch tag))
  catch_same tag l = ap (λ r. ((((r >>= λ k. Ok (index Tags k)) >>= λ i. Ok (i ∷ [])) >>= λ is. Ok (operation catch_opcode is)) >>= λ o. Ok (at_location o l))) (fits_same Tags tag)

  -- ---- what is written of it

  abbrev Same : List (Marked Named) → List (Marked Named) → Type 0
  Same xs ys = map written' ys ≡ map written xs

  abbrev alone : (c : Control) (x y : NamedOperation) (l : ℕ) → AreAlike c x y → Same (with_control (at_location x l) c ∷ []) (with_control (at_location y l) c ∷ [])
  alone c x y l h = ap (λ r. r ∷ []) (same_written c x y l h)

  plain_same : (f : Fate) (action : Action) (x y : NamedOperation) (l : ℕ) → AreAlike (Does action) x y → Same (plain_written f (at_location x l) action) (plain_written f (at_location y l) action)
  plain_same Drops action x y l h = refl
  plain_same Stays action x y l h = alone (Does action) x y l h
  plain_same MakesUnreachable action x y l h = alone (Does action) x y l h

  else_same : (needed : Bool) (l : ℕ) → Same (else_written needed l) (else_written needed l)
  else_same true l = refl
  else_same false l = refl

  end_same : (needed : Bool) (l : ℕ) → Same (end_written needed l) (end_written needed l)
  end_same true l = refl
  end_same false l = refl

  live_same : (needed : Bool) (c : Control) (x y : NamedOperation) (l : ℕ) → AreAlike c x y → Same (live_written needed c (at_location x l)) (live_written needed c (at_location y l))
  live_same needed (Does action) x y l h = plain_same (fate action) action x y l h
  live_same needed (Opens k) x y l h = alone (Opens k) x y l h
  live_same needed Else x y l h = else_same needed l
  live_same needed (Catch t) x y l h = ap (λ r. r ∷ []) (catch_same t l)
  live_same needed CatchAll x y l h = refl
  live_same needed End x y l h = end_same needed l
  live_same needed (Delegate n) x y l h = refl

  waiting_plain : (f : Fate) (k l : ℕ) (action : Action) (x y : NamedOperation) → AreAlike (Does action) x y →
      Same (after_else k (plain_written f (at_location x l) action)) (after_else k (plain_written f (at_location y l) action))
  waiting_plain Drops k l action x y h = refl
  waiting_plain Stays k l action x y h = ap (λ rs. written (with_control (else_at k) Else) ∷ rs) (alone (Does action) x y l h)
  waiting_plain MakesUnreachable k l action x y h = ap (λ rs. written (with_control (else_at k) Else) ∷ rs) (alone (Does action) x y l h)

  waiting_same : (k : ℕ) (c : Control) (x y : NamedOperation) (l : ℕ) → AreAlike c x y → Same (waiting_written k c (at_location x l)) (waiting_written k c (at_location y l))
  waiting_same k (Does action) x y l h = waiting_plain (fate action) k l action x y h
  waiting_same k (Opens d) x y l h = ap (λ rs. written (with_control (else_at k) Else) ∷ rs) (alone (Opens d) x y l h)
  waiting_same k Else x y l h = refl
  waiting_same k (Catch t) x y l h = ap (λ r. written (with_control (else_at k) Else) ∷ r ∷ []) (catch_same t l)
  waiting_same k CatchAll x y l h = refl
  waiting_same k End x y l h = refl
  waiting_same k (Delegate n) x y l h = refl

  ending_same : (o : Open) (c : Control) (x y : NamedOperation) (l : ℕ) → AreAlike c x y → Same (ending_written o c (at_location x l)) (ending_written o c (at_location y l))
  ending_same Dropped c x y l h = refl
  ending_same (Kept needed) c x y l h = live_same needed c x y l h

  unreachable_same : (o : Open) (c : Control) (x y : NamedOperation) (l : ℕ) → AreAlike c x y → Same (unreachable_written o c (at_location x l)) (unreachable_written o c (at_location y l))
  unreachable_same o (Does action) x y l h = refl
  unreachable_same o (Opens k) x y l h = refl
  unreachable_same o Else x y l h = ending_same o Else x y l h
  unreachable_same o (Catch t) x y l h = ending_same o (Catch t) x y l h
  unreachable_same o CatchAll x y l h = ending_same o CatchAll x y l h
  unreachable_same o End x y l h = ending_same o End x y l h
  unreachable_same o (Delegate n) x y l h = ending_same o (Delegate n) x y l h

  in_same : (s : Mode) (o : Open) (c : Control) (x y : NamedOperation) (l : ℕ) → AreAlike c x y → Same (written_in s o c (at_location x l)) (written_in s o c (at_location y l))
  in_same Live o c x y l h = live_same (needs_else o) c x y l h
  in_same (Waits k) o c x y l h = waiting_same k c x y l h
  in_same Unreachable o c x y l h = unreachable_same o c x y l h

  -- ---- the state after it

  abbrev balances_to : NamedOperation → Bool
  balances_to o = to.balanced (construct_type m o)

  abbrev balances_to' : NamedOperation → Bool
  balances_to' o = to'.balanced (construct_type m' o)

  same_begin : (k : Construct) (x y : NamedOperation) → AreAlike (Opens k) x y → begins_with balances_to' k y ≡ begins_with balances_to k x
  same_begin If x y h = ap not (same_balance (Opens If) x y h)
  same_begin Block x y h = refl
  same_begin Loop x y h = refl
  same_begin Try x y h = refl
  same_begin (TryTable cs) x y h = refl

  live_after : (s : Mode) (os : List Open) (c : Control) (x y : NamedOperation) (l : ℕ) → AreAlike c x y → after_live balances_to' s os c (at_location y l) ≡ after_live balances_to s os c (at_location x l)
  live_after s os (Opens k) x y l h = ap (λ b. flat_state Live (Kept b ∷ os)) (same_begin k x y h)
  live_after s os (Does action) x y l h = refl
  live_after s os Else x y l h = refl
  live_after s os (Catch t) x y l h = refl
  live_after s os CatchAll x y l h = refl
  live_after s os End x y l h = refl
  live_after s os (Delegate n) x y l h = refl

  unreachable_after : (os : List Open) (c : Control) (x y : NamedOperation) (l : ℕ) → after_unreachable balances_to' os c (at_location y l) ≡ after_unreachable balances_to os c (at_location x l)
  unreachable_after os (Opens k) x y l = refl
  unreachable_after os (Does action) x y l = refl
  unreachable_after os Else x y l = refl
  unreachable_after os (Catch t) x y l = refl
  unreachable_after os CatchAll x y l = refl
  unreachable_after os End x y l = refl
  unreachable_after os (Delegate n) x y l = refl

  same_after : (s : Mode) (os : List Open) (c : Control) (x y : NamedOperation) (l : ℕ) → AreAlike c x y → after_in balances_to' s os c (at_location y l) ≡ after_in balances_to s os c (at_location x l)
  same_after Live os c x y l h = live_after Live os c x y l h
  same_after (Waits k) os c x y l h = live_after (Waits k) os c x y l h
  same_after Unreachable os c x y l h = unreachable_after os c x y l

  -- ---- all operators

  -- Both have the same controls and locations, and each operator has the other name.
  abbrev pub AllAlike : List (Marked Named) → List (Marked Named) → Type 0
  AllAlike [] [] = Unit {0}
  AllAlike (x ∷ xs) (y ∷ ys) = (y.control ≡ x.control) × (y.shown.location ≡ x.shown.location) × AreAlike x.control x.shown.op y.shown.op × AllAlike xs ys
  AllAlike _ _ = ⊥

  pub flat_alike : (xs ys : List (Marked Named)) (s : FlatState) → AllAlike xs ys → map written' (flat balances_to' s ys) ≡ map written (flat balances_to s xs)
  flat_alike [] [] s h = refl
  flat_alike [] (y ∷ ys) s h = absurd h
  flat_alike (x ∷ xs) [] s h = absurd h
  flat_alike (x ∷ xs) (y ∷ ys) s h =
      let here : y ≡ with_control (at_location y.shown.op x.shown.location) x.control = λ i. with_control (at_location y.shown.op (h.1 i)) (h.0 i) in
      let z = with_control (at_location y.shown.op x.shown.location) x.control in
      let own = in_same s.mode (innermost s.sequences) x.control x.shown.op y.shown.op x.shown.location h.2 in
      let next = same_after s.mode s.sequences x.control x.shown.op y.shown.op x.shown.location h.2 in
      ap (λ (w : Marked Named). map written' (written_at s w ++ flat balances_to' (after balances_to' s w) ys)) here
      ∙ (map-append written' (written_at s z) (flat balances_to' (after balances_to' s z) ys)
      ∙ ((λ i. own i ++ map written' (flat balances_to' (next i) ys))
      ∙ (ap (λ rs. map written (written_at s x) ++ rs) (flat_alike xs ys (after balances_to s x) h.3)
      ∙ sym (map-append written (written_at s x) (flat balances_to (after balances_to s x) xs)))))

  -- ---- the locals that are named

  one_renamed : (i j : Immediate ℕ Signature) → translate_immediate (with_other_locals other) i ≡ Ok j → (ns ms : List ℕ) → AreOthers other ns ms → AreOthers other (before i ns) (before j ms)
  one_renamed (local n) j e ns ms h =
      let m = bound (other n) (λ m. Ok (local m)) j e in
      let is : local m.0 ≡ j = cc m.2 in
      subst (λ k. AreOthers other (n ∷ ns) (before k ms)) is (m.1, h)
  one_renamed i j e ns ms h = subst (λ k. AreOthers other ns (before k ms)) (unchanged i j e) h

  all_renamed : (is js : List (Immediate ℕ Signature)) → translate_immediates (with_other_locals other) is ≡ Ok js → AreOthers other (locals_among is) (locals_among js)
  all_renamed [] js e = let made : [] ≡ js = cc e in subst (λ ks. AreOthers other [] (locals_among ks)) made tt
  all_renamed (i ∷ is) js e =
      let first = bound (translate_immediate (with_other_locals other) i) (λ y. translate_immediates (with_other_locals other) is >>= λ ys. Ok (y ∷ ys)) js e in
      let others = bound (translate_immediates (with_other_locals other) is) (λ ys. Ok (first.0 ∷ ys)) js first.2 in
      let made : first.0 ∷ others.0 ≡ js = cc others.2 in
      let rest = all_renamed is others.0 others.1 in
      let both = one_renamed i first.0 first.1 (locals_among is) (locals_among others.0) rest in
      subst (λ ks. AreOthers other (locals_among (i ∷ is)) (locals_among ks)) made
      (subst (λ ms. AreOthers other (locals_among (i ∷ is)) ms) (sym (first_local first.0 others.0))
      (subst (λ ns. AreOthers other ns (before first.0 (locals_among others.0))) (sym (first_local i is)) both))

  unless_dropped_alike : (f : Fate) (ns ms : List ℕ) → AreOthers other ns ms → AreOthers other (unless_dropped f ns) (unless_dropped f ms)
  unless_dropped_alike Drops ns ms h = tt
  unless_dropped_alike Stays ns ms h = h
  unless_dropped_alike MakesUnreachable ns ms h = h

  own_alike : (c : Control) (x y : NamedOperation) (l : ℕ) → AreAlike c x y → AreOthers other (own_locals c (at_location x l)) (own_locals c (at_location y l))
  own_alike (Does action) x y l h = unless_dropped_alike (fate action) (locals_among x.immediates) (locals_among y.immediates) (all_renamed x.immediates y.immediates h.renamed.immediates)
  own_alike (Opens k) x y l h = all_renamed x.immediates y.immediates h.renamed.immediates
  own_alike Else x y l h = tt
  own_alike (Catch t) x y l h = tt
  own_alike CatchAll x y l h = tt
  own_alike End x y l h = tt
  own_alike (Delegate n) x y l h = tt

  live_alike : (unreachable : Bool) (c : Control) (x y : NamedOperation) (l : ℕ) → AreAlike c x y →
      AreOthers other (live_locals unreachable (with_control (at_location x l) c)) (live_locals unreachable (with_control (at_location y l) c))
  live_alike true c x y l h = tt
  live_alike false c x y l h = own_alike c x y l h

  pub read_alike : (xs ys : List (Marked Named)) (s : Unreachability) → AllAlike xs ys → AreOthers other (locals_read s xs) (locals_read s ys)
  read_alike [] [] s h = tt
  read_alike [] (y ∷ ys) s h = absurd h
  read_alike (x ∷ xs) [] s h = absurd h
  read_alike (x ∷ xs) (y ∷ ys) s h =
      let here : y ≡ with_control (at_location y.shown.op x.shown.location) x.control = λ i. with_control (at_location y.shown.op (h.1 i)) (h.0 i) in
      let z = with_control (at_location y.shown.op x.shown.location) x.control in
      let next = unreachability_after s x.control in
      subst (λ (w : Marked Named). AreOthers other (locals_read s (x ∷ xs)) (live_locals s.unreachable w ++ locals_read (unreachability_after s w.control) ys)) (sym here)
      (others_append other (live_locals s.unreachable x) (live_locals s.unreachable z) (locals_read next xs) (locals_read next ys)
      (live_alike s.unreachable x.control x.shown.op y.shown.op x.shown.location h.2) (read_alike xs ys next h.3))

  -- ---- two bodies of the same operators

  module _ (env' : Environment) (others : HasOtherLocalIds env env' other) where
    abbrev IsAtPlace : Occurrence → Type 0
    IsAtPlace x = x.location ≡ x.place

    all_alike : (xs ys : List Occurrence) → map placed xs ≡ map placed ys → AllByRecursion IsAtPlace xs → AllByRecursion IsAtPlace ys → AllMarked (NamedSomewhere env) (map mark xs) → AllMarked (NamedSomewhere env') (map mark ys) →
        AllAlike (map mark_named (map name_at xs)) (map mark_named (map name_at ys))
    all_alike [] [] e p q h k = tt
    all_alike [] (y ∷ ys) e p q h k = absurd cc
    all_alike (x ∷ xs) [] e p q h k = absurd cc
    all_alike (x ∷ xs) (y ∷ ys) e p q h k =
        let same : placed x ≡ placed y = cc e in
        let rest : map placed xs ≡ map placed ys = cc e in
        let spelt : y.spelt ≡ x.spelt = ap (λ (z : Placed). z.spelt) (sym same) in
        let place : y.place ≡ x.place = ap (λ (z : Placed). z.place) (sym same) in
        let one = named_parts env h.0.0 x.spelt x.named h.0.1 in
        let two = named_parts env' k.0.0 y.spelt y.named k.0.1 in
        let name : IsRenamed other x.named y.named =
        renamed env env' other others h.0.0 k.0.0 x.spelt x.named y.named one.translated (subst (λ o. translate (naming env' k.0.0) o ≡ Ok y.named) spelt two.translated) in (
          same_control other x.named y.named name,
          q.0 ∙ (place ∙ sym p.0),
          record { named = (h.0.0, x.spelt, one.translated); renamed = name; control = refl },
          all_alike xs ys rest p.1 q.1 h.1 k.1,
        )

    -- The operators of two lawful bodies are those of the same bytes: the trees are written alike, and the second names the other locals.
    module _ (xs ys : List Occurrence) (b c : Body Occurrence) (lawful : Lawful env xs b) (lawful' : Lawful env' ys c) (spelt : AllByRecursion HasSpelling xs) (spelt' : AllByRecursion HasSpelling ys)
        (same : map placed xs ≡ map placed ys) (at : AllByRecursion IsAtPlace xs) (at' : AllByRecursion IsAtPlace ys) (m_is : typing_of env ≡ m) (m_is' : typing_of env' ≡ m') where
      alike : AllAlike (map mark_named (map name_at xs)) (map mark_named (map name_at ys))
      alike = all_alike xs ys same at at' (named_somewhere env xs b lawful) (named_somewhere env' ys c lawful')

      pub written_alike : numbered_text to' (normal_form m' (named_body c)) ≡ numbered_text to (normal_form m (named_body b))
      written_alike =
          let one = lawful_named env xs b spelt lawful in
          let two = lawful_named env' ys c spelt' lawful' in
          let typed = subst (λ t. AreTyped t (map name_at xs)) m_is one.1 in
          let typed' = subst (λ t. AreTyped t (map name_at ys)) m_is' two.1 in
          flat_is_numbered m' (map name_at ys) (named_body c) two.0 typed' to'
          ∙ (ap gather (flat_alike (map mark_named (map name_at xs)) (map mark_named (map name_at ys)) first_state alike)
          ∙ sym (flat_is_numbered m (map name_at xs) (named_body b) one.0 typed to))

      pub locals_alike : AreOthers other (locals_of (normal_form m (named_body b))) (locals_of (normal_form m' (named_body c)))
      locals_alike =
          let one = lawful_named env xs b spelt lawful in
          let two = lawful_named env' ys c spelt' lawful' in
          let read = read_alike (map mark_named (map name_at xs)) (map mark_named (map name_at ys)) first_unreachability alike in
          subst (λ ns. AreOthers other ns (locals_of (normal_form m' (named_body c)))) (locals_read_are_named m (map name_at xs) (named_body b) one.0)
          (subst (λ ms. AreOthers other (locals_read first_unreachability (map mark_named (map name_at xs))) ms) (locals_read_are_named m' (map name_at ys) (named_body c) two.0) read)
