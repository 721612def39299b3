-- What is warned of, and what is known of a source, as they are kept.
use Rattle.std.specs.Prelude.{option_map}
use Rattle.warning_model.specs.Warning as model
use Rattle.warning_model.specs.Source.{Known}
use Rattle.warning_text.specs.declared.warning.InSource as kept_place
use Rattle.warning_text.specs.declared.warning.Site as kept_site
use Rattle.warning_text.specs.declared.warning.Doubt as kept_doubt
use Rattle.warning_text.specs.declared.warning.Doubt.TheVariants as doubt
use Rattle.warning_text.specs.declared.warning.Warning as kept_warning
use Rattle.warning_text.specs.declared.known.Known as kept_known

abbrev pub place_of : kept_place.InSource → model.InSource
place_of place = record { node = place.node; line = place.line }

abbrev pub site_of : kept_site.Site → model.Site
site_of site = record { source = option_map place_of site.source; number = site.number; bytes = site.bytes.now }

abbrev pub doubt_of : kept_doubt.Doubt → model.Doubt
doubt_of (doubt.NoDifference node bit) = model.NoDifference node bit
doubt_of (doubt.NoWay node other bit) = model.NoWay node other bit
doubt_of doubt.CodeEnds = model.CodeEnds
doubt_of (doubt.NothingBehind label) = model.NothingBehind label.now
doubt_of (doubt.LabelUnnamed label) = model.LabelUnnamed label.now
doubt_of (doubt.RegisterUnnamed register) = model.RegisterUnnamed register.now
doubt_of (doubt.NoSuchId value) = model.NoSuchId value

abbrev pub warning_of : kept_warning.Warning → model.Warning
warning_of w = record { site = site_of w.site; doubt = doubt_of w.doubt }

abbrev pub known_of : kept_known.Known → Known
known_of known = record {
  nodes = known.nodes.now;
  node = known.node;
  opening = known.opening;
  names = known.names.labels;
  last = known.last;
  sends = known.sends;
}
