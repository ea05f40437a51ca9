-- What calls make, step by step.
use Rattle.std.proofs.Common.{◌≡◌, ◌==◌, ℕ, ◌+◌, ◌<◌, ◌≤◌, List, [], ◌++◌, length, get_or, take, Bool, true, false, cond, not, ◌||◌, ◌&&◌, Option, Some, Result, Ok, Err, IfOk, IfErr, OnOk, inr, refl, sym, ap, subst, ◌∙◌}
use Rattle.std.proofs.Math.Bool.{and-true}
use Rattle.std.proofs.lemmas.List.Folds.{list_any_more}
use Rattle.std.specs.List.{list_any}
use Rattle.std.specs.HashSet.{HashSet, IsEmpty, contains}
use Rattle.wasm_body.specs.Pairs.{Pair}
use Rattle.wasm_sections.specs.declared.changes.Changes.{Changes}
use Rattle.wasm_sections.specs.declared.omissions.OmittedSections.{OmittedSections}
use Rattle.wasm_sections.specs.Omissions.{OmitsNothing, texts_of, has_name, names_debug, names_source_map}
use Rattle.wasm_sections.specs.declared.code.Bodies.{Bodies}
use Rattle.wasm_sections.specs.declared.code.Body.{Body}
use Rattle.wasm_sections.specs.declared.fault.ModuleError.{ModuleError}
use Rattle.wasm_sections.specs.CodeSections.{BodyAt, body_at, TakesBody}
use Rattle.wasm_module.specs.declared.parsed.ParsedModule.{ParsedModule}
use Rattle.wasm_module.specs.declared.changing.kept_bodies.KeptBodies.{KeptBodies}
use Rattle.wasm_module.specs.KeptCode.{AreKeptAs, kept_or}
use Rattle.wasm_module.specs.RewrittenCode.{Extends, IsRewrittenWith}
use Rattle.wasm_module.specs.WrittenModules.{BodyWriting, with_some_pairs, IsWrittenModule}
use Rattle.wasm_module.specs.ToldModules.{module_told}
use Rattle.wasm_module.specs.ToldBodies.{ToldBody}
use Rattle.wasm_module.specs.AcceptedModules.{AcceptsBodies}
use Rattle.wasm_module.specs.ReadFrom.{IsModuleOf}
use Rattle.wasm_module.specs.Refusals.{IsRefusedBody}
use Rattle.wasm_module.proofs.CheckedLemmas.{CheckedSoFar}
use Rattle.wasm_module.proofs.PassedLemmas.{one_passed}
use Rattle.wasm_module.proofs.RewritingLemmas.{rewritten_with_then}
use Rattle.wasm_module.proofs.WriterLemmas.{module_with, kept_module_as}
use Rattle.wrewrite_c.specs.declared.options.Options.{Options}
use Rattle.wrewrite_c.specs.declared.outcome.Named.{Named}
use Rattle.wrewrite_c.specs.declared.outcome.Stop.{Stop}
use Rattle.wrewrite_c.specs.declared.outcome.Stop.TheVariants.{Refused, NoFunction}
use Rattle.wrewrite_c.specs.Made.{without_debug, without_all, LeavesOut, lines_if, IsMadeAfter, IsMadeFrom, IsSnippedFrom, IsSnippedOf, is_among, HasFunctions, AddsIndex}
use Rattle.wrewrite_c.specs.Outcomes.{IsMissingIn, LacksFunctionIn, LacksFunction, IsNamedFunction, IsNamedIn, IsOfFunction, IsOfBodies, IsOfCheck, IsAcceptedFrom}

-- ---- what is left out

-- Where nothing was left out, only what isn't wanted is: by what is kept (k), named (n) and asked for before, by what the name says
-- (nd, ns), and by what isn't wanted (sa, sd).
unwanted :
    (k a n d nd u ns sa sd : Bool) → (not k && (a || (n || ((d && nd) || (u && ns))))) ≡ false →
    (not k && ((sa || a) || (n || (((sd || d) && nd) || (u && ns))))) ≡ true → (sa || (sd && nd)) ≡ true
unwanted k a n d nd u ns true sd h g = refl
unwanted k a n d true u ns false true h g = refl
unwanted k a n true false u ns false true h g = sym h ∙ g
unwanted k a n false false u ns false true h g = sym h ∙ g
unwanted k a n d nd u ns false false h g = sym h ∙ g

or_true : (a b : Bool) → a ≡ true → (a || b) ≡ true
or_true a b h = ap (λ (x : Bool). x || b) h

pub leaves_out :
    (wanted : Options) (old new : OmittedSections) → OmitsNothing old → new ≡ without_all wanted.strips_all (without_debug wanted.strips_debug old) → LeavesOut wanted new
leaves_out wanted old new none e = subst (λ (o : OmittedSections). LeavesOut wanted o) (sym e) (record {
  debug = or_true wanted.strips_debug old.is_debug;
  all = or_true wanted.strips_all old.is_all;
  no_others = λ name.
      unwanted (has_name (texts_of old.kept.items) name) old.is_all (has_name (texts_of old.named.items) name) old.is_debug (names_debug name) old.is_source_map_url
      (names_source_map name) wanted.strips_all wanted.strips_debug (none name);
})

-- ---- the module

-- after nothing that was written before
pub made_new :
    {B : Type 0} (writes : B → BodyWriting) (a b : B) (parsed : ParsedModule) (changes : Changes) (omitted : OmittedSections) (wanted : Options) (old made old_lines made_lines : List ℕ) →
    b ≡ a → changes.given.items ≡ [] → LeavesOut wanted omitted → old ≡ [] →
    (new : List ℕ) × (w : IsWrittenModule (writes b) parsed changes omitted new) × (made ≡ old ++ new)
    × (made_lines ≡ old_lines ++ lines_if wanted.has_map (module_told (writes b) parsed changes omitted new w)) →
    IsMadeAfter (IsMadeFrom (writes a) parsed wanted) made old_lines made_lines
made_new writes a b parsed changes omitted wanted old made old_lines made_lines same none leaves empty w =
    let lines = lines_if wanted.has_map (module_told (writes b) parsed changes omitted w.0 w.1) in
    let it : IsMadeFrom (writes b) parsed wanted w.0 lines = record {
      changes = changes;
      none_given = none;
      omitted = omitted;
      leaves_out = leaves;
      is_written = w.1;
      lines_are = refl;
    } in
    let is_new : w.0 ≡ made = ap (λ (l : List ℕ). l ++ w.0) (sym empty) ∙ sym w.2 in
    let here = subst (λ (x : _). IsMadeFrom (writes x) parsed wanted w.0 lines) same it in
    (lines, w.3, subst (λ (l : List ℕ). IsMadeFrom (writes a) parsed wanted l lines) is_new here)

on_ok : {A E P Q : Type 0} (r : Result A E) → (P → Q) → OnOk r P → OnOk r Q
on_ok (Ok x) f p = f p
on_ok (Err e) f p = tt

-- the same lines are appended
appended : (P Q : (new lines : List ℕ) → Type 0) (new old_lines new_lines : List ℕ) → ((lines : List ℕ) → P new lines → Q new lines) → IsMadeAfter P new old_lines new_lines → IsMadeAfter Q new old_lines new_lines
appended P Q new old_lines new_lines f h = (h.0, h.1, f h.0 h.2)

-- of a module that has changed since: what is written for it then is written for it as it was
pub made_before :
    {A E : Type 0} (r : Result A E) (v w : BodyWriting) (parsed now : ParsedModule) (wanted : Options) (new old_lines new_lines : List ℕ) → Extends parsed now →
    ((f : ℕ) (b : BodyAt) (raw : List ℕ) (ps : List Pair) → v now f b raw ps → w parsed f b raw ps) → OnOk r (IsMadeAfter (IsMadeFrom v now wanted) new old_lines new_lines) →
    OnOk r (IsMadeAfter (IsMadeFrom w parsed wanted) new old_lines new_lines)
made_before r v w parsed now wanted new old_lines new_lines x each h =
    on_ok r (appended (IsMadeFrom v now wanted) (IsMadeFrom w parsed wanted) new old_lines new_lines (λ lines made.
    let before = module_with v w parsed now x each made.changes made.omitted new made.is_written in
    record {
      changes = made.changes;
      none_given = made.none_given;
      omitted = made.omitted;
      leaves_out = made.leaves_out;
      is_written = before.0;
      lines_are = made.lines_are ∙ sym (ap (lines_if wanted.has_map) before.1);
    })) h

no_lines : (has_map : Bool) (bodies others : List ToldBody) → has_map ≡ false → lines_if has_map bodies ≡ lines_if has_map others
no_lines true bodies others e = absurd cc
no_lines false bodies others e = refl

-- with no map, of which bodies were kept
pub made_without_map :
    {A E : Type 0} (r : Result A E) (parsed now : ParsedModule) (kept : KeptBodies) (wanted : Options) (new old_lines new_lines : List ℕ) → wanted.has_map ≡ false → Extends parsed now →
    AreKeptAs (with_some_pairs IsRewrittenWith) parsed kept → OnOk r (IsMadeAfter (IsMadeFrom (kept_or kept IsRewrittenWith) now wanted) new old_lines new_lines) →
    OnOk r (IsMadeAfter (IsMadeFrom IsRewrittenWith parsed wanted) new old_lines new_lines)
made_without_map r parsed now kept wanted new old_lines new_lines none x k h =
    let before = λ (f : ℕ) (b : BodyAt) (raw : List ℕ) (ps : List Pair) (q : IsRewrittenWith now f b raw ps). rewritten_with_then parsed now f b raw ps x q in
    on_ok r (appended (IsMadeFrom (kept_or kept IsRewrittenWith) now wanted) (IsMadeFrom IsRewrittenWith parsed wanted) new old_lines new_lines (λ lines m.
    let written = kept_module_as IsRewrittenWith parsed now kept x k before m.changes m.omitted new m.is_written in
    let told = module_told (kept_or kept IsRewrittenWith) now m.changes m.omitted new m.is_written in
    let others = module_told IsRewrittenWith parsed m.changes m.omitted new written in
    record {
      changes = m.changes;
      none_given = m.none_given;
      omitted = m.omitted;
      leaves_out = m.leaves_out;
      is_written = written;
      lines_are = m.lines_are ∙ no_lines wanted.has_map told others none;
    })) h

-- ---- functions that are added, one after the other

or_last : (t b : Bool) → cond t true b ≡ (b || t)
or_last true true = refl
or_last true false = refl
or_last false true = refl
or_last false false = refl

pub has_none : {S : Type 0} (indices : List ℕ) (functions : HashSet ℕ S) → IsEmpty functions → HasFunctions (take 0 indices) functions
has_none indices functions e = λ index. ap (λ (ks : List ℕ). list_any (λ k. index == k) ks) e

pub has_more :
    {S : Type 0} (indices : List ℕ) (at index : ℕ) (old new : HashSet ℕ S) → at < length indices → index ≡ get_or indices at 0 → HasFunctions (take at indices) old →
    AddsIndex index old new → HasFunctions (take (at + 1) indices) new
has_more indices at index old new bound e h a = λ other.
    a other ∙ ap (λ (b : Bool). cond (index == other) true b) (h other) ∙ or_last (index == other) (is_among (take at indices) other)
    ∙ ap (λ (i : ℕ). is_among (take at indices) other || (i == other)) e ∙ sym (list_any_more (λ i. i == other) indices at 0 bound)

-- a set of ids in terms of their numbers
by_number : {S : Type 0} (s : HashSet ℕ S) (d : ℕ) → contains (λ x y. (x == y) && true) s d ≡ contains (λ x y. x == y) s d
by_number s d = λ i. contains (λ x y. and-true (x == y) i) s d

-- an insertion adds one function
pub adds_one :
    {S : Type 0} (old new : HashSet ℕ S) (index other : ℕ) →
    contains (λ x y. (x == y) && true) new other ≡ cond ((index == other) && true) true (contains (λ x y. (x == y) && true) old other) →
    contains (λ x y. x == y) new other ≡ cond (index == other) true (contains (λ x y. x == y) old other)
adds_one old new index other h = rw (sym (by_number new other), h, by_number old other, and-true (index == other)) refl

-- ---- functions that are missing

-- or the module is refused
pub lacks : (parsed : ParsedModule) (indices : List ℕ) (stop : Stop) → IsMissingIn parsed indices stop → LacksFunctionIn parsed indices stop
lacks parsed indices (Refused r) h = tt
lacks parsed indices (NoFunction index) h = h

-- of a module that was read from these bytes
lacks_of : (source : List ℕ) (parsed : ParsedModule) (indices : List ℕ) (stop : Stop) → IsModuleOf source parsed → LacksFunctionIn parsed indices stop → LacksFunction indices source stop
lacks_of source parsed indices (Refused r) reads h = tt
lacks_of source parsed indices (NoFunction index) reads h = (h.0, (parsed, reads, h.1))

pub if_lacks :
    {A : Type 0} (r : Result A Stop) (source : List ℕ) (parsed : ParsedModule) (indices : List ℕ) → IsModuleOf source parsed → IfErr r (LacksFunctionIn parsed indices) →
    IfErr r (LacksFunction indices source)
if_lacks (Ok x) source parsed indices reads h = tt
if_lacks (Err stop) source parsed indices reads h = lacks_of source parsed indices stop reads h

pub snipped_of :
    {A E : Type 0} (r : Result A E) (indices source : List ℕ) (parsed : ParsedModule) (wanted : Options) (new old_lines new_lines : List ℕ) → IsModuleOf source parsed →
    OnOk r (IsMadeAfter (IsSnippedFrom indices parsed wanted) new old_lines new_lines) → OnOk r (IsMadeAfter (IsSnippedOf indices source wanted) new old_lines new_lines)
snipped_of r indices source parsed wanted new old_lines new_lines reads h =
    on_ok r (appended (IsSnippedFrom indices parsed wanted) (IsSnippedOf indices source wanted) new old_lines new_lines (λ lines m. (parsed, reads, m))) h

-- ---- functions with names

-- in the module of these bytes
pub named_in :
    {E : Type 0} (r : Result Named E) (parsed : ParsedModule) (source : List ℕ) → IsModuleOf source parsed → IfOk r (IsNamedFunction parsed) → IfOk r (IsNamedIn source)
named_in (Ok named) parsed source reads h = (parsed, reads, h)
named_in (Err e) parsed source reads h = tt

-- ---- functions that are checked

pub if_of_bodies :
    {A : Type 0} (r : Result A Stop) (source : List ℕ) (parsed : ParsedModule) (first : ℕ) → IsModuleOf source parsed → IfErr r (IsOfBodies parsed first) →
    IfErr r (IsOfCheck source first)
if_of_bodies (Ok x) source parsed first reads h = tt
if_of_bodies (Err stop) source parsed first reads h = inr (parsed, reads, h)

pub if_accepted :
    {A E : Type 0} (r : Result A E) (source : List ℕ) (parsed : ParsedModule) (first : ℕ) → IsModuleOf source parsed → OnOk r (AcceptsBodies parsed first) →
    OnOk r (IsAcceptedFrom source first)
if_accepted r source parsed first reads h = on_ok r (λ a. (parsed, reads, a)) h

-- the next body is refused
pub first_refused :
    (parsed now : ParsedModule) (first : ℕ) (s t : Bodies) (r : Option Body) (b : Body) (e : ModuleError) → CheckedSoFar parsed first s → r ≡ Some b → TakesBody s r t →
    first ≤ b.func → IsRefusedBody parsed b.func (body_at b) now e → IsOfFunction parsed first e b.func
first_refused parsed now first s t r b e p i takes follows refused =
    let next = one_passed parsed p.passed s t r b p.left_is i takes in
    record {
      follows = follows;
      before = p.passed;
      body = body_at b;
      after = next.after;
      are_bodies = next.are_bodies;
      are_accepted = p.are_accepted;
      function_is = next.function_is;
      now = now;
      is_refused = refused;
    }
