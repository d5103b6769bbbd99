-- What is written is the text of the nodes on the way to the goal, which are a chain of steps with none twice. Assumes nothing.
use native.Mathlib.Omega.{arith}
use Rattle.texts.specs.Texts.{Showable}
use Rattle.texts.proofs.Tracing.{found_leads_back, found_few, found_steps, shown_text}
use Rattle.texts.proofs.spell.Goals as goal

pub trace-requires : goal.trace-requires
trace-requires c =
    let n = c.steps_to-n.ensures in
    let reached = c.in_ok-i.ensures.says in
    (c.requires.2, found_leads_back reached, n.0, found_steps reached (Showable c.args.sets.now) c.requires.3, omega (arith, n.1, found_few reached c.to_goal.new.scratch.room, c.requires.1))

pub returns-clause-says : goal.returns-clause-says
returns-clause-says c = shown_text c.in_ok-i.ensures.says c.to_goal.new.scratch.room c.steps_to-n.ensures.0 c.steps_to-n.ensures.1 c.trace.ensures
