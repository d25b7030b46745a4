-- Rows that were worked out by hand hold.
use Rattle.std.proofs.Common.{true, [], ◌∷◌, refl, arith}
use Rattle.sb_amqp.specs.Meaning.{with_item, unsigned_in}
use Rattle.sb_amqp.specs.Reads.{Reads, IsUnsupported, IsBad}
use Rattle.sb_amqp.specs.Sections.{Section, IsSection, before_all}
use Rattle.sb_amqp.specs.Values.{extent_of, extent_at, kind_of, content_of}
use Rattle.sb_amqp.specs.Worked.{short, short_read, double_body}
use Rattle.sb_amqp.proofs.Only.{nothing_begins}

abbrev header : Section
header = record {
  code = 112;
  is_small = true;
  value = 192 ∷ 8 ∷ 3 ∷ 64 ∷ 64 ∷ 112 ∷ 0 ∷ 0 ∷ 5 ∷ 220 ∷ [];
  items = (64 ∷ []) ∷ (64 ∷ []) ∷ (112 ∷ 0 ∷ 0 ∷ 5 ∷ 220 ∷ []) ∷ [];
}

header_is : IsSection header
unfolding extent_of extent_at kind_of content_of
header_is = record {
  code = omega arith;
  value = (3 ∷ 64 ∷ 64 ∷ 112 ∷ 0 ∷ 0 ∷ 5 ∷ 220 ∷ [], omega arith, refl);
  items = (record { content = refl; each = (refl, (refl, (refl, tt))); count = omega arith }, refl);
}

abbrev data_part : Section
data_part = record { code = 117; is_small = true; value = 160 ∷ 2 ∷ 104 ∷ 105 ∷ []; items = [] }

data_is : IsSection data_part
unfolding extent_of extent_at kind_of content_of
data_is = record { code = omega arith; value = (104 ∷ 105 ∷ [], omega arith, refl); items = refl }

pub short_reads : Reads short_read short
unfolding extent_of extent_at kind_of content_of with_item unsigned_in
short_reads = record {
  sections = header ∷ data_part ∷ [];
  spelled = record { text = refl; order = (refl, header_is, (refl, data_is, tt)); whole = refl };
  said = refl;
}

abbrev double : Section
double = record { code = 119; is_small = true; value = 130 ∷ 0 ∷ 0 ∷ 0 ∷ 0 ∷ 0 ∷ 0 ∷ 0 ∷ 0 ∷ []; items = [] }

double_is : IsSection double
unfolding extent_of extent_at kind_of content_of
double_is = record { code = omega arith; value = refl; items = refl }

pub double_unsupported : IsUnsupported double_body 3
unfolding extent_of extent_at kind_of content_of
double_unsupported = record {
  sections = double ∷ [];
  spelled = record { text = refl; order = (refl, double_is, tt); whole = refl };
  left = 9;
  said = refl;
  place = refl;
}

pub empty_bad : IsBad [] 0
empty_bad = record { sections = []; rest = []; text = refl; order = tt; place = refl; none = record { none = nothing_begins before_all; unended = λ _. refl } }
