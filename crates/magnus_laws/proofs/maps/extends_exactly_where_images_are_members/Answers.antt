use Rattle.magnus_laws.proofs.ImagesInModule.{extends_by_members}
use Rattle.magnus_laws.proofs.maps.extends_exactly_where_images_are_members.Goals as goal

pub returns : goal.returns
returns c = extends_by_members
