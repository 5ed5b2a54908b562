-- The names of the piles.
use Rattle.std.specs.Prelude.{ℕ, List, codes}
use Rattle.piles.specs.declared.pile.Pile.{Pile}
use Rattle.piles.specs.declared.pile.Pile.TheVariants.{Table, Image, HeldTable, HeldImage, TwiceHeldTable, ImageAndHeldTable}

abbrev pub pile_name : Pile → List ℕ
pile_name Table = codes "table"
pile_name Image = codes "image"
pile_name HeldTable = codes "held-table"
pile_name HeldImage = codes "held-image"
pile_name TwiceHeldTable = codes "twice held table"
pile_name ImageAndHeldTable = codes "lines in an image, days held over a table"
