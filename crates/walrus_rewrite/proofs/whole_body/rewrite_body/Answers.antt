use Rattle.std.proofs.Common.{Some, None, refl}
use Rattle.walrus_parser.specs.Bodies.{body_input}
use Rattle.walrus_rewrite.proofs.RewrittenLemmas.{begins_all, all_with_map, all_without_map, few_operators, refused_all, faults_all, bodies_all}
use Rattle.walrus_rewrite.proofs.whole_body.rewrite_body.Goals as goal

pub finish_with_map-requires : goal.finish_with_map-requires
finish_with_map-requires g c = begins_all g.F.Fn (body_input c.args.module.now c.args.indices.now c.args.id c.args.ty c.args.body c.args.on_instr_pos g.V.OpCheck.check (g.V.OpCheck.state c.args.validator)) c.args.module.now c.args.out.now c.args.args.items c.parse-parsed.result c.parse-parsed.ensures.accepted

pub finish-requires : goal.finish-requires
finish-requires g c = begins_all g.F.Fn (body_input c.args.module.now c.args.indices.now c.args.id c.args.ty c.args.body c.args.on_instr_pos g.V.OpCheck.check (g.V.OpCheck.state c.args.validator)) c.args.module.now c.args.out.now c.args.args.items c.parse-parsed.result c.parse-parsed.ensures.accepted

pub returns-in-Some-clause-rewritten : goal.returns-in-Some-clause-rewritten
returns-in-Some-clause-rewritten g c =
    rw c.in-Some.is (all_with_map g.F.Fn (body_input c.args.module.now c.args.indices.now c.args.id c.args.ty c.args.body c.args.on_instr_pos g.V.OpCheck.check (g.V.OpCheck.state c.args.validator)) c.args.module.now c.args.out.now c.args.args.items (λ t. refl) c.parse-parsed.result c.finish_with_map.result c.parse-parsed.ensures.accepted c.parse-parsed.ensures.args c.args.dst.now.items c.finish_with_map.new.dst.items c.in-Some.list _ c.finish_with_map.ensures.ok)

pub returns-in-Some-clause-same_pairs : goal.returns-in-Some-clause-same_pairs
returns-in-Some-clause-same_pairs g c = rw c.in-Some.is c.finish_with_map.ensures.same_pairs

pub returns-in-Some-clause-refused : goal.returns-in-Some-clause-refused
returns-in-Some-clause-refused g c =
    refused_all g.F.Fn (body_input c.args.module.now c.args.indices.now c.args.id c.args.ty c.args.body c.args.on_instr_pos g.V.OpCheck.check (g.V.OpCheck.state c.args.validator)) c.args.module.now c.args.out.now c.args.args.items c.parse-parsed.result c.parse-parsed.ensures.accepted c.parse-parsed.ensures.refused c.parse-parsed.ensures.args (few_operators c.args.body c.requires.fits) c.finish_with_map.result c.finish_with_map.ensures.err

pub returns-in-Some-clause-each_body : goal.returns-in-Some-clause-each_body
returns-in-Some-clause-each_body g c locations b both accepted =
    bodies_all g.F.Fn (body_input c.args.module.now c.args.indices.now c.args.id c.args.ty c.args.body c.args.on_instr_pos g.V.OpCheck.check (g.V.OpCheck.state c.args.validator)) c.args.module.now c.args.out.now c.args.args.items c.parse-parsed.result (c.parse-parsed.ensures.each_body locations b both accepted) c.finish_with_map.result c.finish_with_map.ensures.err

pub returns-in-Some-clause-each_fault : goal.returns-in-Some-clause-each_fault
returns-in-Some-clause-each_fault g c locations f both fault =
    faults_all g.F.Fn (body_input c.args.module.now c.args.indices.now c.args.id c.args.ty c.args.body c.args.on_instr_pos g.V.OpCheck.check (g.V.OpCheck.state c.args.validator)) c.args.module.now c.args.out.now c.args.args.items c.parse-parsed.result f (c.parse-parsed.ensures.each_fault locations f both fault) _ c.finish_with_map.result c.finish_with_map.ensures.ok c.finish_with_map.ensures.err

pub returns-in-None-clause-rewritten : goal.returns-in-None-clause-rewritten
returns-in-None-clause-rewritten g c =
    rw c.in-None.is (all_without_map g.F.Fn (body_input c.args.module.now c.args.indices.now c.args.id c.args.ty c.args.body c.args.on_instr_pos g.V.OpCheck.check (g.V.OpCheck.state c.args.validator)) c.args.module.now c.args.out.now c.args.args.items _ (λ t. refl) c.parse-parsed.result c.finish.result c.parse-parsed.ensures.accepted c.parse-parsed.ensures.args c.args.dst.now.items c.finish.new.dst.items c.finish.ensures.ok)

pub returns-in-None-clause-refused : goal.returns-in-None-clause-refused
returns-in-None-clause-refused g c =
    refused_all g.F.Fn (body_input c.args.module.now c.args.indices.now c.args.id c.args.ty c.args.body c.args.on_instr_pos g.V.OpCheck.check (g.V.OpCheck.state c.args.validator)) c.args.module.now c.args.out.now c.args.args.items c.parse-parsed.result c.parse-parsed.ensures.accepted c.parse-parsed.ensures.refused c.parse-parsed.ensures.args (few_operators c.args.body c.requires.fits) c.finish.result c.finish.ensures.err

pub returns-in-None-clause-each_body : goal.returns-in-None-clause-each_body
returns-in-None-clause-each_body g c locations b both accepted =
    bodies_all g.F.Fn (body_input c.args.module.now c.args.indices.now c.args.id c.args.ty c.args.body c.args.on_instr_pos g.V.OpCheck.check (g.V.OpCheck.state c.args.validator)) c.args.module.now c.args.out.now c.args.args.items c.parse-parsed.result (c.parse-parsed.ensures.each_body locations b both accepted) c.finish.result c.finish.ensures.err

pub returns-in-None-clause-each_fault : goal.returns-in-None-clause-each_fault
returns-in-None-clause-each_fault g c locations f both fault =
    faults_all g.F.Fn (body_input c.args.module.now c.args.indices.now c.args.id c.args.ty c.args.body c.args.on_instr_pos g.V.OpCheck.check (g.V.OpCheck.state c.args.validator)) c.args.module.now c.args.out.now c.args.args.items c.parse-parsed.result f (c.parse-parsed.ensures.each_fault locations f both fault) _ c.finish.result c.finish.ensures.ok c.finish.ensures.err
