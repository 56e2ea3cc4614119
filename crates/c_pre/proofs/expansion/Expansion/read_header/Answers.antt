use Rattle.std.proofs.Common.{Ok}
use Rattle.c_pre.specs.Run.{ran_header}
use Rattle.c_pre.specs.Kept.{progress}
use Rattle.c_pre.specs.Parts.{lines_in}
use Rattle.c_pre.proofs.Skipping.{read-on}
use Rattle.c_pre.proofs.expansion.Expansion.read_header.Goals as goal

pub loop-entry-preserved : goal.loop-entry-preserved
loop-entry-preserved c =
    let on = read-on (λ s. Ok s) c.loop-entry.left.now c.in-Some.rest.now c.lines_behind-left.result.now c.in-Some.entry.now c.loop-entry.reads c.read_line.new.reads (progress c.loop-entry.self) (progress c.read_line.new.self) (ran_header (lines_in c.args.lines.now) (progress c.args.self.now))
    c.in-Some.ensures.cases.0 c.loop-entry.invariant.known c.in_ok-read_line.ensures.state c.in_ok-read_line.ensures.reads c.lines_behind-left.ensures c.loop-entry.invariant.told in
    record { told = on.0; known = on.1 }
