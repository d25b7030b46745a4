-- User properties that are gathered by their names: what an entry of the map stands for.
use Rattle.std.specs.Prelude.{String, string_bytes}
use Rattle.std.specs.declared.alloc.Global.{Global}
use Rattle.sb_model.specs.declared.message.Property.{Property}
use Rattle.sb_model.specs.declared.message.PropertyValue.{PropertyValue}

-- a name and its value
abbrev pub property_at : String Global × PropertyValue → Property
property_at e = record { name = string_bytes e.0; value = e.1 }
