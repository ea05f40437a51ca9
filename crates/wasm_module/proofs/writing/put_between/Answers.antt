use Rattle.std.proofs.Common.{◌≡◌, ◌≤◌, ◌<◌, ℕ, false, List, length, get_or, ap, subst, ◌∙◌, arith}
use Rattle.wasm_sections.specs.declared.changes.NewContents.{NewContents}
use Rattle.wasm_sections.specs.Sections.{rank, section_id, section}
use Rattle.wasm_module.specs.WrittenModules.{Puts, FitsSize, is_between}
use Rattle.wasm_module.proofs.NewSectionLemmas.{is_within_ranks, is_before_ranks, is_after_ranks, one_new, one_elsewhere, all_fit}
use Rattle.wasm_module.proofs.writing.put_between.Goals as goal
use Rattle.wasm_module.proofs.writing.put_between.Goals.{then-ranks-rank+then-rank-ranks+in_ok-end, else-ranks-rank, else-ranks-rank-via-then-ranks-rank+else-rank-ranks, else-ranks-rank-via-else-ranks-rank}

pub given-preserved : goal.given-preserved
given-preserved g c =
    let contents = g.W.Write.contents in
    let first = c.args.ranks.0 in
    let second = c.args.ranks.1 in
    let gs = c.args.changes.now.given.items in
    let at = c.given in
    let item = c.given-item.result in
    let r = rank (section_id item.kind) in
    let within : at.given-index < length gs = omega arith in
    let is = c.given-item.is ∙ ap (λ (l : List NewContents). get_or l at.given-index item) c.deref-given-items.ensures.value in
    elim c.if-ranks-rank.branch [
      | then-ranks-rank+then-rank-ranks+in_ok-end w ↦
          let p : first < r = omega (arith, c.rank-rank.ensures) in
          let q : r < second = omega (arith, c.rank-rank.ensures) in
          let puts = subst (λ (l : List ℕ). Puts (contents at.out) (contents w.put_section.new.out) at.end w.in_ok-end.end (section (section_id item.kind) l)) w.deref.ensures.value w.in_ok-end.ensures.written in
          one_new first second gs at.given-index item within is (contents c.args.out.now) (contents at.out) (contents w.put_section.new.out) (contents c.if-ranks-rank.out)
          c.args.at at.end w.in_ok-end.end c.if-ranks-rank.end at.invariant (is_within_ranks first r second p q) puts (subst FitsSize w.deref.ensures.value w.in_ok-end.ensures.fits) (cc w.out-is) (cc w.end-is)
      | else-ranks-rank w ↦
          let is_elsewhere : is_between first second item ≡ false = elim w.else-ranks-rank.branch [
            | else-ranks-rank-via-then-ranks-rank+else-rank-ranks x ↦
                let p : first < r = omega (arith, c.rank-rank.ensures) in
                let q : second ≤ r = omega (arith, c.rank-rank.ensures) in
                is_after_ranks first r second p q
            | else-ranks-rank-via-else-ranks-rank x ↦
                let p : r ≤ first = omega (arith, c.rank-rank.ensures) in
                is_before_ranks first r second p
          ] in
          one_elsewhere first second gs at.given-index item within is (contents c.args.out.now) (contents at.out) (contents c.if-ranks-rank.out) c.args.at at.end
          c.if-ranks-rank.end at.invariant is_elsewhere (cc w.out-is) (cc w.end-is)
    ]

pub returns-clause-fits : goal.returns-clause-fits
returns-clause-fits g c =
    let contents = g.W.Write.contents in
    let at = c.given in
    all_fit c.args.ranks.0 c.args.ranks.1 c.args.changes.now.given.items at.given-index (contents c.args.out.now) (contents at.out) c.args.at at.end
    at.invariant (omega arith)
