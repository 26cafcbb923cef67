use Rattle.std.proofs.Common.{◌+◌, sym, ◌∙◌, subst, zero-add, add-one}
use Rattle.marks.specs.Meaning.{Along, release}
use Rattle.list_law.specs.Call.{Obeys}
use Rattle.list_law.specs.Making.{releases_from}
use Rattle.list_making.proofs.Makes.{releases_more}
use Rattle.list_making.proofs.making.release_all.Goals as goal

pub loop-number-preserved : goal.loop-number-preserved
loop-number-preserved g c =
    let scheme = g.S.Scheme in
    let obeys = Obeys scheme.table scheme.strict scheme.acts in
    let n = c.loop-number.number in
    let seat = c.known_seat.ensures in
    let released : obeys (release (0 + n)) c.loop-number.scheme c.release.new.self = subst (λ k. obeys (release k) c.loop-number.scheme c.release.new.self) (seat ∙ sym (zero-add n)) (c.release.ensures.acts, c.release.ensures.means) in
    subst (λ k. Along obeys (releases_from 0 k) c.args.scheme.now c.release.new.self) (sym (add-one n)) (releases_more obeys 0 n c.args.scheme.now c.loop-number.scheme c.release.new.self c.loop-number.invariant released)
