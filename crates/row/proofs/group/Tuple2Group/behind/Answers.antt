-- `behind` of two groups: the cells of the second stand behind those of the first.
use mathlib.Core.Path.{◌∙◌, ap, sym}
use Rattle.row.specs.Group.{joined}
use Rattle.row.proofs.GroupLaws.{fit_append, joined_append, room_first, room_second}
use Rattle.row.proofs.group.Tuple2Group.behind.Goals as goal

pub behind-requires : goal.behind-requires
behind-requires g c = room_first g.A.Group.widths g.B.Group.widths c.args.front _ c.requires

pub behind-requires-2 : goal.behind-requires-2
behind-requires-2 g c =
    rw (c.behind.ensures.number)
    (room_second g.A.Group.widths g.B.Group.widths _ c.args.front _ c.behind.ensures.fit c.requires)

pub returns-clause-number : goal.returns-clause-number
returns-clause-number g c =
    c.behind-2.ensures.number ∙ ap (joined g.B.Group.widths _) c.behind.ensures.number
    ∙ sym (joined_append g.A.Group.widths g.B.Group.widths _ _ c.args.front c.behind.ensures.fit)

pub returns-clause-fit : goal.returns-clause-fit
returns-clause-fit g c = fit_append g.A.Group.widths g.B.Group.widths _ _ c.behind.ensures.fit c.behind-2.ensures.fit
