use Rattle.std.proofs.Common.{[]}
use Rattle.c_pre.specs.Run.{ran, ran_header}
use Rattle.c_pre.specs.Kept.{progress}
use Rattle.c_pre.specs.Parts.{lines_in}
use Rattle.c_pre.proofs.Skipping.{read-on}
use Rattle.c_pre.proofs.expansion.Expansion.read_source.Goals as goal

pub loop-entry-preserved : goal.loop-entry-preserved
loop-entry-preserved c =
    let on = read-on (ran_header (lines_in c.args.header.now)) c.loop-entry.left.now c.in-Some.rest.now c.lines_behind-left.result.now c.in-Some.entry.now c.loop-entry.reads c.read_source_line.new.reads (progress c.loop-entry.self) (progress c.read_source_line.new.self) (ran (ran_header (lines_in c.args.header.now)) [] (progress c.args.self.now) (lines_in c.args.source.now))
    c.in-Some.ensures.cases.0 c.loop-entry.invariant.known c.in_ok-read_source_line.ensures.state c.in_ok-read_source_line.ensures.reads c.lines_behind-left.ensures c.loop-entry.invariant.told in
    record { told = on.0; known = on.1 }
