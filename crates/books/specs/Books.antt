-- The tables of the flat book, and those of a book below a correlation layer.
use Rattle.std.specs.Prelude.{ℕ, Bool, ◌==◌, List, Some, None, Option}
use Rattle.values.specs.Checked.{and_then}
use Rattle.values.specs.declared.labels.Descriptor.{Descriptor}
use Rattle.values.specs.declared.labels.Point.{Point}
use Rattle.values.specs.declared.rates.Scenario.{Scenario}
use Rattle.values.specs.declared.rates.Tariff.{Tariff}
use Rattle.rating.specs.Rating.{Book}
use Rattle.books.specs.declared.correlation.Correlation.{Correlation}
use Rattle.books.specs.declared.correlation.Pair.{Pair}
use Rattle.books.specs.declared.flat.Entry.{Entry}
use Rattle.books.specs.declared.flat.FlatBook.{FlatBook}
use Rattle.books.specs.Lists.{items_of, with_key}

-- The flat book: what it lists, and each entry by its descriptor.
abbrev pub entries_of : FlatBook → List Entry
entries_of b = items_of b.entries

abbrev pub entry_of : Descriptor → Scenario → Tariff → Entry
entry_of d s t = record { descriptor = d; scenario = s; tariff = t }

abbrev pub descriptor_key : Entry → Descriptor
descriptor_key e = e.descriptor

abbrev pub same_descriptor : Descriptor → Descriptor → Bool
same_descriptor d e = d.number == e.number

abbrev pub most_descriptors : ℕ
most_descriptors = 16

-- the entry of a descriptor, if it is listed
abbrev pub listed_entry : Descriptor → List Entry → Option Entry
listed_entry d es = with_key same_descriptor descriptor_key d es

-- a listed descriptor has its scenario, and its tariff at all points and on all days; another has neither
abbrev pub flat_tables : List Entry → Book
flat_tables es = record {
  scenarios = λ d. and_then (listed_entry d es) (λ e. Some e.scenario);
  tariffs = λ p d day. and_then (listed_entry d es) (λ e. Some e.tariff);
}

-- The correlation layer: its pairs, each by its first point.
abbrev pub pairs_of : {B : Type 0} → Correlation B → List Pair
pairs_of c = items_of c.pairs

abbrev pub pair_of : Point → Point → Pair
pair_of p q = record { first = p; second = q }

abbrev pub first_key : Pair → Point
first_key pair = pair.first

abbrev pub same_point : Point → Point → Bool
same_point p q = p.number == q.number

abbrev pub most_pairs : ℕ
most_pairs = 64

abbrev pub second_or : Point → Option Pair → Point
second_or p None = p
second_or p (Some pair) = pair.second

-- the point as which a point is asked below: a pair's first point as its second, once, and another as itself
abbrev pub asked_as : List Pair → Point → Point
asked_as pairs p = second_or p (with_key same_point first_key p pairs)

-- the tables of a layer over a book: only the point of a tariff question changes
abbrev pub correlated_tables : List Pair → Book → Book
correlated_tables pairs below = record {
  scenarios = below.scenarios;
  tariffs = λ p. below.tariffs (asked_as pairs p);
}
