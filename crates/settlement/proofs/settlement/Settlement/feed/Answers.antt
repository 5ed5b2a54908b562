use Rattle.settlement.proofs.settlement.Settlement.feed.Goals as goal

pub returns : goal.returns
returns g c = record {
  fed = λ start b xs h. record { first = h.first; fed = c.feed.ensures.fed h.first xs h.fed; began = h.began; handed = h.handed };
}
