-- `pack` is `state_words`, word by word; in-flight by what its function answers.
use borrow.Author.Rules.{rules}
use mir.Syntax.{w64}
use mir.Val.{SFits}
use mir.ValLaws.{to_z-of_z}
use Rattle.c_state.specs.Layout.{state_words}
use Rattle.c_state.proofs.pack.Goals as goal

pub returns : goal.returns
unfolding state_words
returns c =
    let z = c.args.state.totals.in_flight in
    let fits : SFits w64 z = search rules in
    rw (c.in_flight_word.ensures, to_z-of_z w64 z fits)
