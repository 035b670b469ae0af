use Rattle.lf.proofs.ExtensionTyping.{extension_keeps_typing, extension_keeps_types}
use Rattle.lf.proofs.extension_keeps_typing.Goals as goal

pub returns : goal.returns
returns c = λ S Σ Σ' x G. (extension_keeps_typing S Σ Σ' x G, extension_keeps_types S Σ Σ' x G)
