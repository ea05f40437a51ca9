use Rattle.std.proofs.Common.{sym, subst, inl}
use Rattle.walrus_maps.specs.Environments.{environment_of}
use Rattle.walrus_numbering.specs.NumberMaps.{numbers_by}
use Rattle.tests_body.specs.ReadBack.{HasBytes}
use Rattle.tests_body.proofs.ReadBackLemmas.{has_itself}
use Rattle.tests_body.proofs.read_back.rewritten_twice.Goals as goal

pub returns-in-Ok-rewritten-clause-unchanged : goal.returns-in-Ok-rewritten-clause-unchanged
returns-in-Ok-rewritten-clause-unchanged c =
    let a = c.args in
    let to = numbers_by a.module.now.types a.out.now a.locals.now.entries in
    let first = c.in-Ok.bytes.items in
    let itself = has_itself a.module.now a.indices.now a.again.now a.id a.ty to c.requires.undone c.law_inverse_undoes.ensures c.law_accepted_again.ensures a.ops.now first c.in-Ok.ensures.written in
    let known = c.in-Ok-rewritten.ensures.each_body first (subst (λ l. HasBytes (environment_of a.module.now a.again.now a.id a.ty) to l first) (sym c.deref.ensures.value) itself) in
    known.1

pub returns-in-Ok-rewritten-clause-each_fault : goal.returns-in-Ok-rewritten-clause-each_fault
returns-in-Ok-rewritten-clause-each_fault c e has =
    let refused = c.in-Ok.ensures.each_fault e has in
    absurd (let none = refused.0 in cc)

pub returns-in-Err-rewritten-clause-refused : goal.returns-in-Err-rewritten-clause-refused
returns-in-Err-rewritten-clause-refused c =
    let a = c.args in
    let to = numbers_by a.module.now.types a.out.now a.locals.now.entries in
    let first = c.in-Ok.bytes.items in
    let itself = has_itself a.module.now a.indices.now a.again.now a.id a.ty to c.requires.undone c.law_inverse_undoes.ensures c.law_accepted_again.ensures a.ops.now first c.in-Ok.ensures.written in
    let known = c.in-Err-rewritten.ensures.each_body first (subst (λ l. HasBytes (environment_of a.module.now a.again.now a.id a.ty) to l first) (sym c.deref.ensures.value) itself) in
    inl known.0

pub returns-in-Err-rewritten-clause-each_body : goal.returns-in-Err-rewritten-clause-each_body
returns-in-Err-rewritten-clause-each_body c bytes has =
    let a = c.args in
    let to = numbers_by a.module.now.types a.out.now a.locals.now.entries in
    let first = c.in-Ok.bytes.items in
    let itself = has_itself a.module.now a.indices.now a.again.now a.id a.ty to c.requires.undone c.law_inverse_undoes.ensures c.law_accepted_again.ensures a.ops.now first c.in-Ok.ensures.written in
    let known = c.in-Err-rewritten.ensures.each_body first (subst (λ l. HasBytes (environment_of a.module.now a.again.now a.id a.ty) to l first) (sym c.deref.ensures.value) itself) in
    known.0

pub returns-in-Err-rewritten-clause-each_fault : goal.returns-in-Err-rewritten-clause-each_fault
returns-in-Err-rewritten-clause-each_fault c e has =
    let refused = c.in-Ok.ensures.each_fault e has in
    absurd (let none = refused.0 in cc)
